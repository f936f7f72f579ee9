use Rattle.std.proofs.Common.{rules}
use Rattle.rsx_tree.proofs.edge.Edge.ask_up_to.Goals as goal

pub returns : goal.returns
returns c = search rules
