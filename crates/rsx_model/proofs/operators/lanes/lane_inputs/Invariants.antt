use Rattle.std.proofs.Common.{◌≡◌, ◌++◌, length}
use Rattle.std.specs.Vec.Iter.{into_iter_items}
use Rattle.rsx_values.specs.Pick.{numbered}
use Rattle.rsx_model.proofs.operators.lanes.lane_inputs.Given as goal

abbrev pub invariant-loop-lane : goal.invariant-loop-lane
invariant-loop-lane g l = l.inputs.items ++ numbered (length l.inputs.items) (into_iter_items l.lane-iterator) ≡ numbered 0 l.fn.lanes.items
