use Rattle.std.proofs.Common.{◌≡◌, ◌++◌, take}
use Rattle.rsx_merging.proofs.behind.ConcatNodeLeftBehind.copy_behind.Given as goal

abbrev pub invariant-loop-item : goal.invariant-loop-item
invariant-loop-item g l = l.all.items ≡ l.fn.all.items ++ take l.item-index l.items
