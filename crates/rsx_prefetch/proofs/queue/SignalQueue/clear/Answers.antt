use Rattle.std.proofs.Common.{rules}
use Rattle.rsx_prefetch.proofs.queue.SignalQueue.clear.Goals as goal

pub returns : goal.returns
returns g c = search rules
