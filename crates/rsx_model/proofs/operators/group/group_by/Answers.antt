use Rattle.std.proofs.Common.{◌≡◌, [], IfOk, map, rules, subst}
use Rattle.rsx_values.specs.Group.{IsKeyed, group_lane, keyed_items}
use Rattle.rsx_values.proofs.Keying.{groups_are}
use Rattle.rsx_model.proofs.operators.group.group_by.Goals as goal

pub returns : goal.returns
returns g c =
    let m = g.O.Ops.meaning c.args.ops.now in
    let keyed = c.in_ok-keyed.keyed in
    let gs = c.args.stages.now in
    let lanes = c.in_ok-lanes.lanes.items in
    let v = keyed_items (m.keyed c.args.f) [] c.args.input.items c.args.input.ending in
    let found : IsKeyed v keyed.keys keyed.items.items keyed.ending = search rules in
    let each : lanes ≡ map (group_lane m gs (record { items = keyed.items.items; ending = keyed.ending })) keyed.keys = search rules in
    subst (λ w. IfOk c.merge_lanes.result (λ o. o ≡ w)) (groups_are m gs c.args.choices.now v keyed.keys keyed.items.items keyed.ending lanes found each) c.merge_lanes.ensures
