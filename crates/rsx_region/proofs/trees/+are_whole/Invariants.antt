use Rattle.std.proofs.Common.{length}
use Rattle.rsx_region.proofs.trees.+are_whole.Given as goal

abbrev pub decreases-are_whole : goal.decreases-are_whole
decreases-are_whole g l = length l.pieces.now
