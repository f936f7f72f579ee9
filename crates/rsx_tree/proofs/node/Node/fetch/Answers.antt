use Rattle.std.proofs.Common.{refl, Some}
use Rattle.rsx_tree.proofs.Fetches.{fetched_at_once, fetched_then, fetched_tree}
use Rattle.rsx_tree.proofs.Popped.{item_out_of}
use Rattle.rsx_tree.proofs.node.Node.fetch.Goals as goal

pub returns-in-Some : goal.returns-in-Some
returns-in-Some g c = fetched_at_once g.M.Machine (g.O.Ops.meaning c.args.ops.now) c.args.asked c.args.sent c.args.left.now c.args.self.now.machine c.pop_item.new.self c.args.self.now.inputs c.in-Some.item (item_out_of g.M.Machine (g.O.Ops.meaning c.args.ops.now) c.args.self.now.machine c.pop_item.new.self (g.M.Machine.popping c.args.self.now.machine) c.in-Some.item refl c.in-Some.ensures.some c.pop_item.ensures.alike)

pub returns-in-Some-fetch : goal.returns-in-Some-fetch
returns-in-Some-fetch g c =
    fetched_tree g.M.Machine (g.O.Ops.meaning c.args.ops.now) c.args.asked c.args.sent c.args.left.now c.fetch.new.left c.args.self.now.machine c.pop_item.new.self c.fetch.new.receiver c.args.self.now.inputs c.fetch.new.self (Some c.in-Some-fetch.item)
    c.in-None.ensures.none c.in-Some-fetch.ensures

pub returns-in-None-fetch : goal.returns-in-None-fetch
returns-in-None-fetch g c =
    let m = g.O.Ops.meaning c.args.ops.now in
    fetched_tree g.M.Machine m c.args.asked c.args.sent c.args.left.now c.fetch_beside.new.left c.args.self.now.machine c.pop_item.new.self c.fetch_beside.new.receiver c.args.self.now.inputs c.fetch_beside.new.self c.fetch_beside.result
    c.in-None.ensures.none
    (fetched_then g.M.Machine m 0 c.args.asked c.args.sent c.args.left.now c.fetch.new.left c.fetch_beside.new.left c.pop_item.new.self c.fetch.new.receiver c.fetch_beside.new.receiver c.args.self.now.inputs c.fetch.new.self c.fetch_beside.new.self c.fetch_beside.result c.in-None-fetch.ensures c.fetch_beside.ensures)
