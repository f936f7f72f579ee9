use Rattle.std.proofs.Common.{rules}
use Rattle.rsx_queued.proofs.item_queue.ItemQueue.is_empty.Goals as goal

pub returns : goal.returns
returns g c = search rules
