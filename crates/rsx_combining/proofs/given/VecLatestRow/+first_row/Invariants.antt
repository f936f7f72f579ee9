use Rattle.std.proofs.Common.{length}
use Rattle.rsx_combining.proofs.given.VecLatestRow.+first_row.Given as goal

abbrev pub decreases-first_row : goal.decreases-first_row
decreases-first_row g l = length l.latest.now
