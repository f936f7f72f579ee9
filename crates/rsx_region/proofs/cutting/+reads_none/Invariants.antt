use Rattle.std.proofs.Common.{length}
use Rattle.rsx_region.proofs.cutting.+reads_none.Given as goal

abbrev pub decreases-reads_none : goal.decreases-reads_none
decreases-reads_none g l = length l.inlets.now
