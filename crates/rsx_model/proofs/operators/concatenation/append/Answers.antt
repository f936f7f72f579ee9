use Rattle.std.proofs.Common.{rules, arith}
use Rattle.std.proofs.lemmas.Grind.{common_steps}
use Rattle.rsx_model.proofs.operators.concatenation.append.Goals as goal

pub loop-item-init : goal.loop-item-init
loop-item-init g c = search rules

pub loop-item-preserved : goal.loop-item-preserved
loop-item-preserved g c = grind (arith, common_steps)

pub returns-in_err-push : goal.returns-in_err-push
returns-in_err-push g c = search rules

pub returns : goal.returns
returns g c = grind (arith, common_steps)
