use Rattle.std.proofs.Common.{rules}
use Rattle.rsx_queued.proofs.queued.QueuedMachine.put_back.Goals as goal

pub returns-then-len-lt-CAPACITY : goal.returns-then-len-lt-CAPACITY
returns-then-len-lt-CAPACITY g c = search rules
