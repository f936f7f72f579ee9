use Rattle.std.proofs.Common.{rules}
use Rattle.rsx_tree.proofs.node.Node.new.Goals as goal

pub returns-clause-inputs : goal.returns-clause-inputs
returns-clause-inputs g c = search rules
