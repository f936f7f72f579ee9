use Rattle.std.proofs.Common.{◌≡◌, take}
use Rattle.rsx_demo.proofs.val.copy_items.Given as goal

abbrev pub invariant-loop-x : goal.invariant-loop-x
invariant-loop-x l = l.out.items ≡ take l.x-index l.xs
