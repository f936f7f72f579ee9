use Rattle.rsx_tree.proofs.Looks.{enabled_tree, none_tree}
use Rattle.rsx_tree.proofs.node.Node.first_enabled.Goals as goal

pub returns-clause-some : goal.returns-clause-some
returns-clause-some g c = λ m. enabled_tree g.M.Machine m c.args.self.now c.args.asked c.args.sent c.args.first c.first_enabled.result (c.first_enabled.ensures.some m)

pub returns-clause-none : goal.returns-clause-none
returns-clause-none g c = λ m. none_tree g.M.Machine m c.args.self.now c.args.asked c.args.sent c.args.first c.first_enabled.result (c.first_enabled.ensures.none m)
