use Rattle.rsx_kinds.proofs.SteppedOut.{stepped_out_several, stepped_out_flat_map, stepped_out_flat_map_delay, stepped_out_group_by}
use Rattle.rsx_kinds.proofs.any_node.AnyNodeMachine.step_item.Goals as goal

pub returns-in-Several-clause-out : goal.returns-in-Several-clause-out
returns-in-Several-clause-out g c =
    rw c.in-Several.is (stepped_out_several (g.O.Ops.meaning c.args.ops.now) c.in-Several.node c.step_item.new.self c.args.asked c.args.sent c.step_item.result c.step_item.ensures.out)

pub returns-in-FlatMap-clause-out : goal.returns-in-FlatMap-clause-out
returns-in-FlatMap-clause-out g c =
    rw c.in-FlatMap.is (stepped_out_flat_map (g.O.Ops.meaning c.args.ops.now) c.in-FlatMap.node c.step_item-in-FlatMap.new.self c.args.asked c.args.sent c.step_item-in-FlatMap.result c.step_item-in-FlatMap.ensures.out)

pub returns-in-FlatMapDelay-clause-out : goal.returns-in-FlatMapDelay-clause-out
returns-in-FlatMapDelay-clause-out g c =
    rw c.in-FlatMapDelay.is (stepped_out_flat_map_delay (g.O.Ops.meaning c.args.ops.now) c.in-FlatMapDelay.node c.step_item-in-FlatMapDelay.new.self c.args.asked c.args.sent c.step_item-in-FlatMapDelay.result c.step_item-in-FlatMapDelay.ensures.out)

pub returns-in-GroupBy-clause-out : goal.returns-in-GroupBy-clause-out
returns-in-GroupBy-clause-out g c =
    rw c.in-GroupBy.is (stepped_out_group_by (g.O.Ops.meaning c.args.ops.now) c.in-GroupBy.node c.step_item-in-GroupBy.new.self c.args.asked c.args.sent c.step_item-in-GroupBy.result c.step_item-in-GroupBy.ensures.out)
