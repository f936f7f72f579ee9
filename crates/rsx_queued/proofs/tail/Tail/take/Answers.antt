use Rattle.std.proofs.Common.{rules}
use Rattle.rsx_queued.proofs.tail.Tail.take.Goals as goal

pub returns-in-Completion-clause-signal : goal.returns-in-Completion-clause-signal
returns-in-Completion-clause-signal g c = search rules
