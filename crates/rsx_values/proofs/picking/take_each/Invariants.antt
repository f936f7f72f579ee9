use Rattle.std.proofs.Common.{◌≡◌, ◌++◌}
use Rattle.std.specs.Vec.Iter.{into_iter_items}
use Rattle.rsx_values.specs.Delayed.{rest_of_all}
use Rattle.rsx_values.proofs.picking.take_each.Given as goal

abbrev pub invariant-loop-input : goal.invariant-loop-input
invariant-loop-input g l = l.out.items ++ rest_of_all (into_iter_items l.input-iterator) ≡ l.fn.out.items ++ rest_of_all l.fn.inputs.items
