use Rattle.std.proofs.Common.{◌≡◌, ◌++◌, take}
use Rattle.rsx_queued.proofs.input.QueuedInputRemaining.copy_queue.Given as goal

abbrev pub invariant-loop-at : goal.invariant-loop-at
invariant-loop-at g l = l.all.items ≡ l.fn.all.items ++ take l.at l.self.queue.items
