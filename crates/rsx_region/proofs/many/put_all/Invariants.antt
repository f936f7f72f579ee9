use Rattle.rsx_region.proofs.AtOnce.{IsSending}
use Rattle.rsx_region.proofs.many.put_all.Given as goal

abbrev pub invariant-loop-item : goal.invariant-loop-item
invariant-loop-item g l = IsSending l.link l.fn.up l.up l.fn.items.items l.items.items

abbrev pub decreases-loop-item : goal.decreases-loop-item
decreases-loop-item g l = goal.left-loop-item g l
