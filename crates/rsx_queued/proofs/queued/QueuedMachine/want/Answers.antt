use Rattle.std.proofs.Common.{rules}
use Rattle.rsx_queued.proofs.queued.QueuedMachine.want.Goals as goal

pub returns : goal.returns
returns g c = search rules
