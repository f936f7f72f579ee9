use Rattle.std.proofs.Common.{◌≡◌, ◌++◌}
use Rattle.rsx_hub.proofs.member.MemberRemaining.copy_queue.Given as goal

abbrev pub invariant-loop-item : goal.invariant-loop-item
invariant-loop-item g l = l.all.items ++ l.item-iterator ≡ l.initial.all.items ++ l.self.queue
