use Rattle.std.proofs.Common.{rules}
use Rattle.rsx_prefetch.proofs.queue.SignalQueue.push.Goals as goal

pub returns : goal.returns
returns g c = search rules
