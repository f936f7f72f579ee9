use Rattle.std.proofs.Common.{length}
use Rattle.rsx_queued.proofs.inputs.VecInputToPick.+push_inputs.Given as goal

abbrev pub decreases-push_inputs : goal.decreases-push_inputs
decreases-push_inputs g l = length l.inputs.now
