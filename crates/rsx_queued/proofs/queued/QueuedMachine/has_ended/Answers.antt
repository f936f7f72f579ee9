use Rattle.std.proofs.Common.{rules}
use Rattle.rsx_queued.proofs.queued.QueuedMachine.has_ended.Goals as goal

pub returns-in-Completion : goal.returns-in-Completion
returns-in-Completion g c = search rules
