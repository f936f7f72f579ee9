use Rattle.std.proofs.Common.{◌≡◌, drop}
use Rattle.rsx_types.specs.Stream.{items_then}
use Rattle.rsx_types.specs.Plain.{mapped_items}
use Rattle.rsx_model.proofs.operators.plain.map_items.Given as goal

abbrev pub invariant-loop-x : goal.invariant-loop-x
invariant-loop-x g l =
    let f = (g.O.Ops.meaning l.ops).mapped l.f in
    items_then l.out.items (mapped_items f (drop l.x-index l.items) l.ending) ≡ mapped_items f l.items l.ending
