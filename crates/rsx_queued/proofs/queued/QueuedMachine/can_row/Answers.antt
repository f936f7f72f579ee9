use Rattle.std.proofs.Common.{rules}
use Rattle.rsx_queued.proofs.queued.QueuedMachine.can_row.Goals as goal

pub returns-then-can_transfer : goal.returns-then-can_transfer
returns-then-can_transfer g c = search rules
