use Rattle.rsx_tree.proofs.Fetches.{root_step_out}
use Rattle.rsx_tree.proofs.node.Node.step_item.Goals as goal

pub returns : goal.returns
returns g c = root_step_out g.M.Machine (g.O.Ops.meaning c.args.ops.now) c.args.self.now.machine c.step_item_over.new.node c.args.self.now.inputs c.step_item_over.new.below c.args.edge.now c.step_item_over.result c.step_item_over.ensures.out
