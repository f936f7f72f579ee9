use Rattle.std.proofs.Common.{length}
use Rattle.rsx_region.proofs.cutting.+has_no_number.Given as goal

abbrev pub decreases-has_no_number : goal.decreases-has_no_number
decreases-has_no_number g l = length l.inlets.now
