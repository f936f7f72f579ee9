use Rattle.std.proofs.Common.{arith}
use Rattle.std.proofs.lemmas.Grind.{common_steps}
use Rattle.rsx_demo.proofs.val.copy_items.Goals as goal

pub returns : goal.returns
returns c = grind (arith, common_steps)
