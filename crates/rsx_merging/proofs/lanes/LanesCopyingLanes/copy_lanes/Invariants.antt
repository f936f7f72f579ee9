use Rattle.std.proofs.Common.{◌≡◌, ◌++◌, take}
use Rattle.rsx_merging.proofs.lanes.LanesCopyingLanes.copy_lanes.Given as goal

abbrev pub invariant-loop-at : goal.invariant-loop-at
invariant-loop-at g l = l.inputs.items ≡ l.fn.inputs.items ++ take l.at l.self-inside.list.items
