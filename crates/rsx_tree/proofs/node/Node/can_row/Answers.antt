use Rattle.std.proofs.Common.{rules}
use Rattle.rsx_tree.proofs.node.Node.can_row.Goals as goal

pub returns-then-is_live : goal.returns-then-is_live
returns-then-is_live g c = search rules
