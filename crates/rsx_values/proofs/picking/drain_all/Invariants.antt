use Rattle.std.proofs.Common.{◌≡◌, ◌++◌}
use Rattle.std.specs.Vec.Iter.{into_iter_items}
use Rattle.rsx_values.specs.Pick.{rest_of}
use Rattle.rsx_values.proofs.picking.drain_all.Given as goal

abbrev pub invariant-loop-input : goal.invariant-loop-input
invariant-loop-input g l = l.out.items ++ rest_of (into_iter_items l.input-iterator) ≡ l.fn.out.items ++ rest_of l.fn.inputs.items
