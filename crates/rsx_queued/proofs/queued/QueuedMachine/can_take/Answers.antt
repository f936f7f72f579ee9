use Rattle.std.proofs.Common.{rules}
use Rattle.rsx_queued.proofs.queued.QueuedMachine.can_take.Goals as goal

pub returns-then-is_open : goal.returns-then-is_open
returns-then-is_open g c = search rules
