use Rattle.std.proofs.Common.{rules}
use Rattle.rsx_queued.proofs.queued.QueuedMachine.next_pick.Goals as goal

pub returns-clause-none : goal.returns-clause-none
returns-clause-none g c = search rules
