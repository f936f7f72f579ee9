use Rattle.std.proofs.Common.{length}
use Rattle.rsx_combining.proofs.latest_items.+gives_row.Given as goal

abbrev pub decreases-gives_row : goal.decreases-gives_row
decreases-gives_row g l = length l.latest.now
