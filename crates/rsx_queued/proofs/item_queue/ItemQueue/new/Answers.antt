use Rattle.std.proofs.Common.{rules}
use Rattle.rsx_queued.proofs.item_queue.ItemQueue.new.Goals as goal

pub invariant_of-result : goal.invariant_of-result
invariant_of-result g c = search rules
