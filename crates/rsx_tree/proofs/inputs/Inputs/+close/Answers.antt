use Rattle.std.proofs.Common.{rules}
use Rattle.rsx_tree.proofs.inputs.Inputs.+close.Goals as goal

pub returns-in-More : goal.returns-in-More
returns-in-More g t c = search rules
