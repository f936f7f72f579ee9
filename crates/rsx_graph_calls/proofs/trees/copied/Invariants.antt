use Rattle.std.proofs.Common.{◌≡◌, take}
use Rattle.rsx_graph_calls.proofs.trees.copied.Given as goal

abbrev pub invariant-loop-number : goal.invariant-loop-number
invariant-loop-number l = l.all.items ≡ take l.number-index l.numbers
