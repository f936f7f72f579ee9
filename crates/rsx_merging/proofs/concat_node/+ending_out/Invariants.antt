use Rattle.std.proofs.Common.{length}
use Rattle.rsx_merging.proofs.concat_node.+ending_out.Given as goal

abbrev pub decreases-ending_out : goal.decreases-ending_out
decreases-ending_out g l = length l.endings.now
