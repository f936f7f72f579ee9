use Rattle.std.proofs.Common.{length}
use Rattle.rsx_merging.proofs.lanes.+waiting_after.Given as goal

abbrev pub decreases-waiting_after : goal.decreases-waiting_after
decreases-waiting_after g l = length l.lanes.now
