use Rattle.std.proofs.Common.{length}
use Rattle.rsx_region.proofs.spreading.+gather.Given as goal

abbrev pub decreases-gather : goal.decreases-gather
decreases-gather g l = length l.places.now
