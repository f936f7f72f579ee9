use Rattle.std.proofs.Common.{length}
use Rattle.rsx_queued.proofs.inputs.+are_gone.Given as goal

abbrev pub decreases-are_gone : goal.decreases-are_gone
decreases-are_gone g l = length l.inputs.now
