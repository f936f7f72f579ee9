use Rattle.std.proofs.Common.{◌≡◌, take}
use Rattle.rsx_model.proofs.operators.plain.copies_of.Given as goal

abbrev pub invariant-loop-x : goal.invariant-loop-x
invariant-loop-x g l = l.out.items ≡ take l.x-index l.items
