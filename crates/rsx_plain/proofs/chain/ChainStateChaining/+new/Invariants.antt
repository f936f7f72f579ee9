use Rattle.std.proofs.Common.{length}
use Rattle.rsx_plain.proofs.chain.ChainStateChaining.+new.Given as goal

abbrev pub decreases-new : goal.decreases-new
decreases-new g l = length l.stages.now
