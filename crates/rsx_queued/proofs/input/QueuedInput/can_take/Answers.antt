use Rattle.std.proofs.Common.{rules}
use Rattle.rsx_queued.proofs.input.QueuedInput.can_take.Goals as goal

pub returns-then-not-is_open : goal.returns-then-not-is_open
returns-then-not-is_open g c = search rules

pub returns-in-Item : goal.returns-in-Item
returns-in-Item g c = search rules

pub returns-in-Completion : goal.returns-in-Completion
returns-in-Completion g c = search rules
