use Rattle.std.proofs.Common.{◌≡◌, drop}
use Rattle.rsx_types.specs.Stream.{item_then, items_then}
use Rattle.rsx_types.specs.Plain.{scanned_items}
use Rattle.rsx_model.proofs.operators.plain.scan_items.Given as goal

abbrev pub invariant-loop-x : goal.invariant-loop-x
invariant-loop-x g l =
    let f = (g.O.Ops.meaning l.ops).folded l.f in
    items_then l.out.items (item_then l.latest (scanned_items f l.latest (drop l.x-index l.items) l.ending)) ≡ item_then l.seed (scanned_items f l.seed l.items l.ending)
