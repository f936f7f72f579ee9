use Rattle.std.proofs.Common.{rules}
use Rattle.rsx_tree.proofs.edge.Edge.carry.Goals as goal

pub returns-in-Item : goal.returns-in-Item
returns-in-Item c = search rules
