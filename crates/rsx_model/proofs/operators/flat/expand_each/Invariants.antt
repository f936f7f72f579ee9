use Rattle.std.proofs.Common.{◌≡◌, ◌++◌, drop, map}
use Rattle.rsx_types.specs.Plain.{listed}
use Rattle.rsx_values.specs.Flat.{expanded_items}
use Rattle.rsx_model.proofs.operators.flat.expand_each.Given as goal

abbrev pub invariant-loop-item : goal.invariant-loop-item
invariant-loop-item g l =
    let expand = (g.O.Ops.meaning l.ops).expanded l.f in
    let rest = expanded_items expand (drop l.item-index l.items) l.ending in
    let whole = expanded_items expand l.items l.ending in
    (l.values.items ++ map listed rest.items ≡ map listed whole.items) × (rest.ending ≡ whole.ending)
