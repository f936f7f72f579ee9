use Rattle.std.proofs.Common.{◌≡◌, take}
use Rattle.rsx_demo.proofs.val.+copy.Given as goal

abbrev pub invariant-copy_vals-loop-item : goal.invariant-copy_vals-loop-item
invariant-copy_vals-loop-item l = l.out.items ≡ take l.item-index l.item-items
