use Rattle.std.proofs.Common.{◌≡◌, take}
use Rattle.rsx_demo.proofs.val.+same.Given as goal

abbrev pub invariant-is_same_list-loop-i : goal.invariant-is_same_list-loop-i
invariant-is_same_list-loop-i l = take l.i l.xs_items ≡ take l.i l.ys_items
