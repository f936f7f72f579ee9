use Rattle.std.proofs.Common.{rules}
use Rattle.rsx_tree.proofs.node.Node.can_pick.Goals as goal

pub returns-then-at-gt0 : goal.returns-then-at-gt0
returns-then-at-gt0 g c = search rules
