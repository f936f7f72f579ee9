use Rattle.std.proofs.Common.{◌≡◌, []}
use Rattle.std.specs.Vec.Iter.{into_iter_items}
use Rattle.rsx_types.specs.Stream.{items_then}
use Rattle.rsx_types.specs.Plain.{buffered_items}
use Rattle.rsx_model.proofs.operators.plain.buffer_items.Given as goal

abbrev pub invariant-loop-x : goal.invariant-loop-x
invariant-loop-x g l =
    let list = (g.O.Ops.meaning l.ops).list_of in
    items_then l.out.items (buffered_items list l.size l.started.items (into_iter_items l.x-iterator) l.ending) ≡ buffered_items list l.size [] l.fn.items.items l.ending
