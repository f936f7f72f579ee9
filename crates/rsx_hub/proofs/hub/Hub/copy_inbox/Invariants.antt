use Rattle.std.proofs.Common.{◌≡◌, ◌++◌, reverse}
use Rattle.rsx_hub.proofs.hub.Hub.copy_inbox.Given as goal

abbrev pub invariant-loop-item : goal.invariant-loop-item
invariant-loop-item g l = l.items.items ++ reverse l.item-iterator.iter ≡ l.initial.items.items ++ reverse l.self.inbox
