use Rattle.std.proofs.Common.{◌≡◌, IfOk, map, rules, subst}
use Rattle.rsx_types.specs.Plain.{chained}
use Rattle.rsx_values.specs.Flat.{IsExpanded, expanded_items}
use Rattle.rsx_model.proofs.Mains.{flat_is}
use Rattle.rsx_model.proofs.operators.flat.flat_map.Goals as goal

pub returns : goal.returns
returns g c =
    let m = g.O.Ops.meaning c.args.ops.now in
    let values = c.in_ok-values.field-0.values.items in
    let e = c.in_ok-values.field-0.ending in
    let expanded : IsExpanded (expanded_items (m.expanded c.args.f) c.args.input.items c.args.input.ending) values e = search rules in
    let lanes : c.in_ok-lanes.lanes.items ≡ map (chained m c.args.stages.now) values = search rules in
    subst (λ w. IfOk c.merge_lanes.result (λ o. o ≡ w)) (flat_is m c.args.f c.args.stages.now c.args.choices.now c.args.input values c.in_ok-lanes.lanes.items e expanded lanes) c.merge_lanes.ensures
