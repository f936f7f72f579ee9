use Rattle.std.proofs.Common.{length}
use Rattle.rsx_region.proofs.halves.+pour.Given as goal

abbrev pub decreases-pour : goal.decreases-pour
decreases-pour g l = length l.remaining.now
