use Rattle.rsx_tree.proofs.Trees.{joined}
use Rattle.rsx_tree.proofs.node.Node.join.Goals as goal

pub returns : goal.returns
returns g c =
    joined c.args.self c.args.beside c.new-3.result c.in_ok-below.below c.in_ok-others.others c.new-3.ensures.asked c.new-3.ensures.sent c.new-3.ensures.state c.in_ok-below.ensures.ok c.in_ok-others.ensures.ok
