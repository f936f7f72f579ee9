use Rattle.std.proofs.Common.{rules}
use Rattle.rsx_queued.proofs.item_queue.ItemQueue.len.Goals as goal

pub returns-clause-len : goal.returns-clause-len
returns-clause-len g c = search rules
