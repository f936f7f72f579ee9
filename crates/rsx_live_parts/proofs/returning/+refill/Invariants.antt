use Rattle.std.proofs.Common.{length}
use Rattle.rsx_live_parts.proofs.returning.+refill.Given as goal

abbrev pub decreases-refill : goal.decreases-refill
decreases-refill g l = length l.remaining.now
