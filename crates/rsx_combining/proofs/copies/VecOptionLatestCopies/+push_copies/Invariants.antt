use Rattle.std.proofs.Common.{length}
use Rattle.rsx_combining.proofs.copies.VecOptionLatestCopies.+push_copies.Given as goal

abbrev pub decreases-push_copies : goal.decreases-push_copies
decreases-push_copies g l = length l.latest.now
