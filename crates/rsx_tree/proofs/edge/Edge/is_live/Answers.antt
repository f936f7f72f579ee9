use Rattle.std.proofs.Common.{rules}
use Rattle.rsx_tree.proofs.edge.Edge.is_live.Goals as goal

pub returns-in-Live : goal.returns-in-Live
returns-in-Live c = search rules

pub returns-in_default : goal.returns-in_default
returns-in_default c = search rules
