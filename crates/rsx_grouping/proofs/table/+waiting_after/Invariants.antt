use Rattle.std.proofs.Common.{length}
use Rattle.rsx_grouping.proofs.table.+waiting_after.Given as goal

abbrev pub decreases-waiting_after : goal.decreases-waiting_after
decreases-waiting_after g l = length l.rows.now
