use Rattle.std.proofs.Common.{length}
use Rattle.rsx_combining.proofs.row.VecGathered.+row_with.Given as goal

abbrev pub decreases-row_with : goal.decreases-row_with
decreases-row_with g l = length l.inputs.now
