use Rattle.std.proofs.Common.{rules}
use Rattle.rsx_queued.proofs.queued.Queued.can_transfer.Goals as goal

pub returns-in-Some-Item : goal.returns-in-Some-Item
returns-in-Some-Item g c = search rules

pub returns-in-Some-Completion : goal.returns-in-Some-Completion
returns-in-Some-Completion g c = search rules

pub returns-in-Some-Completion-2 : goal.returns-in-Some-Completion-2
returns-in-Some-Completion-2 g c = search rules
