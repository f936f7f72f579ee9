use Rattle.std.proofs.Common.{rules}
use Rattle.rsx_tree.proofs.node.Node.notes.Goals as goal

pub returns : goal.returns
returns g c = search rules
