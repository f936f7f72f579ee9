use Rattle.std.proofs.Common.{rules}
use Rattle.rsx_tree.proofs.edge.Edge.new.Goals as goal

pub returns-clause-state : goal.returns-clause-state
returns-clause-state c = search rules
