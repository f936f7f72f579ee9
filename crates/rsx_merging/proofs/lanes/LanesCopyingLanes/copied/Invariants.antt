use Rattle.std.proofs.Common.{◌≡◌, take}
use Rattle.rsx_merging.proofs.lanes.LanesCopyingLanes.copied.Given as goal

abbrev pub invariant-loop-at : goal.invariant-loop-at
invariant-loop-at g l = l.copy ≡ take l.at l.self-inside.list.items
