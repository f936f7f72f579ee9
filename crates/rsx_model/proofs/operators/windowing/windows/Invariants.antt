use Rattle.std.proofs.Common.{◌≡◌, ◌++◌, []}
use Rattle.std.specs.Vec.Iter.{into_iter_items}
use Rattle.rsx_values.specs.Window.{windows}
use Rattle.rsx_model.proofs.operators.windowing.windows.Given as goal

abbrev pub invariant-loop-item : goal.invariant-loop-item
invariant-loop-item g l = l.full.items ++ windows l.size l.started.items (into_iter_items l.item-iterator) l.ending ≡ windows l.size [] l.fn.items.items l.ending
