use Rattle.std.proofs.Common.{length}
use Rattle.rsx_merging.proofs.concat_node.+turn.Given as goal

abbrev pub decreases-turn : goal.decreases-turn
decreases-turn l = length l.endings.now
