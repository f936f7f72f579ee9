use Rattle.std.proofs.Common.{arith, rules}
use Rattle.std.proofs.lemmas.Grind.{common_steps}
use Rattle.rsx_hub.proofs.hub.Hub.keep.Goals as goal

pub returns-in-Some : goal.returns-in-Some
returns-in-Some g c = search rules

pub returns-in_default : goal.returns-in_default
returns-in_default g c = grind (arith, common_steps)
