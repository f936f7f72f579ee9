use Rattle.std.proofs.Common.{◌≡◌, ◌++◌, take, reverse}
use Rattle.rsx_merging.proofs.lanes.LaneCopyingLane.copied_value.Given as goal

abbrev pub invariant-loop-at : goal.invariant-loop-at
invariant-loop-at g l = l.items.items ++ reverse (take l.at l.self-inside.reversed.items) ≡ reverse l.self-inside.reversed.items
