use Rattle.std.proofs.Common.{rules}
use Rattle.rsx_tree.proofs.node.Node.first_step.Goals as goal

pub returns-clause-some : goal.returns-clause-some
returns-clause-some g c = search rules
