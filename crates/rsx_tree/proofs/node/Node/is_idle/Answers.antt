use Rattle.rsx_tree.proofs.Drives.{idle_tree}
use Rattle.rsx_tree.proofs.node.Node.is_idle.Goals as goal

pub returns : goal.returns
returns g c = λ m yes. idle_tree g.M.Machine m c.args.self.now.machine c.args.self.now.inputs c.args.asked c.args.sent (c.is_idle.ensures m yes)
