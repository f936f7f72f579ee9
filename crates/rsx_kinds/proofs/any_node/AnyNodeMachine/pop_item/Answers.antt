use Rattle.std.proofs.Common.{Some}
use Rattle.rsx_kinds.specs.Prelude.{eager_popping}
use Rattle.rsx_kinds.proofs.Dispatch.{item_out_source, item_out_plain, item_out_publish_on, item_out_several, item_out_window, item_out_flat_map, item_out_flat_map_delay, item_out_publish_on_eager, item_out_group_by}
use Rattle.rsx_kinds.proofs.any_node.AnyNodeMachine.pop_item.Goals as goal

pub returns-in-Source-clause-some : goal.returns-in-Source-clause-some
returns-in-Source-clause-some g c =
    rw c.in-Source.is (item_out_source (g.O.Ops.meaning c.args.ops.now) c.in-Source.node c.pop_item.new.self c.pop_item.result c.pop_item.ensures.some)

pub returns-in-Plain-clause-some : goal.returns-in-Plain-clause-some
returns-in-Plain-clause-some g c =
    rw c.in-Plain.is (item_out_plain (g.O.Ops.meaning c.args.ops.now) c.in-Plain.node c.pop_item-in-Plain.new.self c.pop_item-in-Plain.result c.pop_item-in-Plain.ensures.some)

pub returns-in-Several-clause-some : goal.returns-in-Several-clause-some
returns-in-Several-clause-some g c =
    rw c.in-Several.is (item_out_several (g.O.Ops.meaning c.args.ops.now) c.in-Several.node c.pop_item-in-Several.new.self c.pop_item-in-Several.result c.pop_item-in-Several.ensures.some)

pub returns-in-PublishOn-clause-some : goal.returns-in-PublishOn-clause-some
returns-in-PublishOn-clause-some g c =
    rw c.in-PublishOn.is (item_out_publish_on (g.O.Ops.meaning c.args.ops.now) c.in-PublishOn.node c.pop_item-in-PublishOn.new.self c.pop_item-in-PublishOn.result c.pop_item-in-PublishOn.ensures.some)

pub returns-in-Window-clause-some : goal.returns-in-Window-clause-some
returns-in-Window-clause-some g c =
    rw c.in-Window.is (item_out_window (g.O.Ops.meaning c.args.ops.now) c.in-Window.node c.pop_item-in-Window.new.self c.pop_item-in-Window.result c.pop_item-in-Window.ensures.some)

pub returns-in-FlatMap-clause-some : goal.returns-in-FlatMap-clause-some
returns-in-FlatMap-clause-some g c =
    rw c.in-FlatMap.is (item_out_flat_map (g.O.Ops.meaning c.args.ops.now) c.in-FlatMap.node c.pop_item-in-FlatMap.new.self c.pop_item-in-FlatMap.result c.pop_item-in-FlatMap.ensures.some)

pub returns-in-FlatMapDelay-clause-some : goal.returns-in-FlatMapDelay-clause-some
returns-in-FlatMapDelay-clause-some g c =
    rw c.in-FlatMapDelay.is (item_out_flat_map_delay (g.O.Ops.meaning c.args.ops.now) c.in-FlatMapDelay.node c.pop_item-in-FlatMapDelay.new.self c.pop_item-in-FlatMapDelay.result c.pop_item-in-FlatMapDelay.ensures.some)

pub returns-in-Some-clause-some : goal.returns-in-Some-clause-some
returns-in-Some-clause-some g c =
    rw c.in-PublishOnEager.is (item_out_publish_on_eager (g.O.Ops.meaning c.args.ops.now) (eager_popping c.in-PublishOnEager.node) c.in-PublishOnEager.node c.pop_item-in-PublishOnEager.new.self (Some c.in-Some.item) c.in-Some.ensures.some)

pub returns-in-GroupBy-clause-some : goal.returns-in-GroupBy-clause-some
returns-in-GroupBy-clause-some g c =
    rw c.in-GroupBy.is (item_out_group_by (g.O.Ops.meaning c.args.ops.now) c.in-GroupBy.node c.pop_item-in-GroupBy.new.self c.pop_item-in-GroupBy.result c.pop_item-in-GroupBy.ensures.some)
