use Rattle.std.proofs.Common.{◌≡◌, ◌++◌}
use Rattle.std.specs.Vec.Iter.{into_iter_items}
use Rattle.rsx_model.proofs.operators.concatenation.append.Given as goal

abbrev pub invariant-loop-item : goal.invariant-loop-item
invariant-loop-item g l = l.items.items ++ into_iter_items l.item-iterator ≡ l.fn.items.items ++ l.fn.more.items
