use Rattle.std.proofs.Common.{◌≡◌, map, take}
use Rattle.rsx_model.proofs.operators.group.tag_each.Given as goal

abbrev pub invariant-loop-item : goal.invariant-loop-item
invariant-loop-item g l = l.tagged.items ≡ map ((g.O.Ops.meaning l.ops).tagged l.key) (take l.item-index l.fn.value.items)
