use Rattle.std.proofs.Common.{◌≡◌, []}
use Rattle.std.specs.Vec.Iter.{into_iter_items}
use Rattle.rsx_types.specs.Stream.{items_then}
use Rattle.rsx_types.specs.Plain.{distinct_items}
use Rattle.rsx_model.proofs.operators.plain.distinct_items.Given as goal

abbrev pub invariant-loop-x : goal.invariant-loop-x
invariant-loop-x g l =
    let key = (g.O.Ops.meaning l.ops).keyed l.f in
    items_then l.out.items (distinct_items key l.seen (into_iter_items l.x-iterator) l.ending) ≡ distinct_items key [] l.fn.items.items l.ending
