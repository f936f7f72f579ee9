use Rattle.std.proofs.Common.{◌≡◌, true, refl, Some, rules}
use Rattle.rsx_types.specs.declared.signal.Signal.TheVariants.{Next}
use Rattle.rsx_merging.specs.FlatMap.{flat_picks}
use Rattle.rsx_merging.specs.Lanes.{TakesItem}
use Rattle.rsx_merging.proofs.Picked.{is_pick}
use Rattle.rsx_delayed.proofs.SteppedOut.{lane_gone}
use Rattle.rsx_delayed.proofs.flat_map_delay_node.FlatMapDelayNodeMachine.step_item.Goals as goal

pub returns-clause-out : goal.returns-clause-out
returns-clause-out g c =
    let n = c.args.self.now in
    let i = c.in-Some.number in
    let x = c.in-Some-take_first_item.item in
    let picks : flat_picks n.flat i c.args.asked c.args.sent ≡ true = search rules in
    let taken : TakesItem i n.flat.lanes (Some x) c.take_first_item.new.self = c.in-Some-take_first_item.ensures i c.in-Some.ensures.first c.in-Some.ensures.item in
    let p = is_pick n.flat i c.args.asked c.args.sent (Some (Next x)) (Next x) (Next x) c.take_first_item.new.self picks taken refl refl in
    lane_gone (g.O.Ops.meaning c.args.ops.now) n _ i c.args.asked c.args.sent x c.take_first_item.new.self picks p refl (search rules)

pub unreachable-requires : goal.unreachable-requires
unreachable-requires g c =
    let taken : TakesItem c.in-Some.number c.args.self.now.flat.lanes c.take_first_item.result c.take_first_item.new.self = c.take_first_item.ensures c.in-Some.number c.in-Some.ensures.first c.in-Some.ensures.item in
    search (taken, rules)
