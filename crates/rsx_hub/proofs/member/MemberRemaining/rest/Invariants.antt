use Rattle.std.proofs.Common.{◌≡◌, ◌++◌, take}
use Rattle.rsx_hub.proofs.member.MemberRemaining.rest.Given as goal

abbrev pub invariant-loop-item : goal.invariant-loop-item
invariant-loop-item g l = l.all.items ≡ l.self.queue ++ take l.item-index l.items
