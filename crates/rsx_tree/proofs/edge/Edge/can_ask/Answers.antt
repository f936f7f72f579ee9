use Rattle.std.proofs.Common.{rules}
use Rattle.rsx_tree.proofs.edge.Edge.can_ask.Goals as goal

pub returns-then-is_live : goal.returns-then-is_live
returns-then-is_live c = search rules
