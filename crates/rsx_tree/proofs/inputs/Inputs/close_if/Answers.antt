use Rattle.std.proofs.Common.{rules}
use Rattle.rsx_tree.proofs.inputs.Inputs.close_if.Goals as goal

pub returns-then-own-clause-row : goal.returns-then-own-clause-row
returns-then-own-clause-row g c = search rules
