use Rattle.std.proofs.Common.{rules}
use Rattle.rsx_prefetch.proofs.queue.SignalQueue.pop.Goals as goal

pub returns-clause-none : goal.returns-clause-none
returns-clause-none g c = search rules
