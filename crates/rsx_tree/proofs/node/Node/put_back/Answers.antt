use Rattle.std.proofs.Common.{rules}
use Rattle.rsx_tree.proofs.node.Node.put_back.Goals as goal

pub returns : goal.returns
returns g c = search rules
