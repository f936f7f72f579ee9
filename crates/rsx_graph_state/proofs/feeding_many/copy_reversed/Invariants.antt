use Rattle.std.proofs.Common.{◌≡◌, ◌++◌, reverse}
use Rattle.rsx_graph_state.proofs.feeding_many.copy_reversed.Given as goal

abbrev pub invariant-loop-item : goal.invariant-loop-item
invariant-loop-item g l = l.items.items ++ reverse l.item-iterator.iter.rest.now ≡ l.initial.items.items ++ reverse l.from
