use Rattle.std.proofs.Common.{arith}
use Rattle.std.proofs.lemmas.Grind.{common_steps}
use Rattle.rsx_model.proofs.evaluate.behind_of.Goals as goal

pub returns : goal.returns
returns g c = grind (arith, common_steps)
