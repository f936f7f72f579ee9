use Rattle.std.proofs.Common.{◌≡◌, ◌++◌, map, take}
use Rattle.rsx_grouping.proofs.waiting.VecTaggingBehind.tag_behind.Given as goal

abbrev pub invariant-loop-item : goal.invariant-loop-item
invariant-loop-item g l = l.self.items ≡ l.fn.self.items ++ map ((g.O.Ops.meaning l.ops).tagged l.key) (take l.item-index l.items)
