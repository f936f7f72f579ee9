use Rattle.std.proofs.Common.{length}
use Rattle.rsx_grouping.proofs.table.+are_gone.Given as goal

abbrev pub decreases-are_gone : goal.decreases-are_gone
decreases-are_gone g l = length l.rows.now
