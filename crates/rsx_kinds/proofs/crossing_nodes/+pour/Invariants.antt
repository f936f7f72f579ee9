use Rattle.std.proofs.Common.{length}
use Rattle.rsx_kinds.proofs.crossing_nodes.+pour.Given as goal

abbrev pub decreases-pour : goal.decreases-pour
decreases-pour g l = length l.leaf.queue
