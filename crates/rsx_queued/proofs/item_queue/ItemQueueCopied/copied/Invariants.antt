use Rattle.std.proofs.Common.{◌≡◌, ◌++◌}
use Rattle.rsx_queued.proofs.item_queue.ItemQueueCopied.copied.Given as goal

abbrev pub invariant-loop-item : goal.invariant-loop-item
invariant-loop-item g l = l.items.items ++ l.item-iterator ≡ l.self
