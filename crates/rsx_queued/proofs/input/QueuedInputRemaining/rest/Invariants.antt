use Rattle.std.proofs.Common.{◌≡◌, ◌++◌, take}
use Rattle.rsx_queued.proofs.input.QueuedInputRemaining.rest.Given as goal

abbrev pub invariant-loop-item : goal.invariant-loop-item
invariant-loop-item g l = l.all.items ≡ l.self.queue.items ++ take l.item-index l.items
