use Rattle.std.proofs.Common.{length}
use Rattle.rsx_grouping.proofs.table.+are_quiet.Given as goal

abbrev pub decreases-are_quiet : goal.decreases-are_quiet
decreases-are_quiet g l = length l.rows.now
