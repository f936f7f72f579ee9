use Rattle.std.proofs.Common.{length}
use Rattle.rsx_live_parts.proofs.outgoing.+pour.Given as goal

abbrev pub decreases-pour : goal.decreases-pour
decreases-pour g l = length l.queue.now
