use Rattle.rsx_kinds.proofs.Dispatch.{item_out_items, item_out_range, item_out_hub}
use Rattle.rsx_kinds.proofs.source_node.SourceNodeMachine.pop_item.Goals as goal

pub returns-in-Items-clause-some : goal.returns-in-Items-clause-some
returns-in-Items-clause-some g c =
    rw c.in-Items.is (item_out_items (g.O.Ops.meaning c.args.ops.now) c.in-Items.node c.pop_item.new.self c.pop_item.result c.pop_item.ensures.some)

pub returns-in-Range-clause-some : goal.returns-in-Range-clause-some
returns-in-Range-clause-some g c =
    rw c.in-Range.is (item_out_range (g.O.Ops.meaning c.args.ops.now) c.in-Range.node c.pop_item-in-Range.new.self c.pop_item-in-Range.result c.pop_item-in-Range.ensures.some)

pub returns-in-Hub-clause-some : goal.returns-in-Hub-clause-some
returns-in-Hub-clause-some g c =
    rw c.in-Hub.is (item_out_hub (g.O.Ops.meaning c.args.ops.now) c.in-Hub.node c.pop_item-in-Hub.new.self c.pop_item-in-Hub.result c.pop_item-in-Hub.ensures.some)
