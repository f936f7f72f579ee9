use Rattle.std.proofs.Common.{take, length, ◌-◌}
use Rattle.rsx_values.proofs.Places.{NotAmong}
use Rattle.rsx_merging.proofs.lanes.Lanes.place_of.Given as goal

abbrev pub decreases-loop-at : goal.decreases-loop-at
decreases-loop-at g l = length l.self - l.at

abbrev pub invariant-loop-at : goal.invariant-loop-at
invariant-loop-at g l = NotAmong l.number (take l.at l.self)
