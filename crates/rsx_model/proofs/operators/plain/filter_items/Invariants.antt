use Rattle.std.proofs.Common.{◌≡◌}
use Rattle.std.specs.Vec.Iter.{into_iter_items}
use Rattle.rsx_types.specs.Stream.{items_then}
use Rattle.rsx_types.specs.Plain.{filtered_items}
use Rattle.rsx_model.proofs.operators.plain.filter_items.Given as goal

abbrev pub invariant-loop-x : goal.invariant-loop-x
invariant-loop-x g l =
    let f = (g.O.Ops.meaning l.ops).tested l.f in
    items_then l.out.items (filtered_items f (into_iter_items l.x-iterator) l.ending) ≡ filtered_items f l.fn.items.items l.ending
