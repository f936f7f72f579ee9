use Rattle.std.proofs.Common.{rules, arith}
use Rattle.std.proofs.lemmas.Grind.{common_steps}
use Rattle.rsx_values.proofs.delaying.merge_delay.Goals as goal

pub loop-value-init : goal.loop-value-init
loop-value-init g c = search rules

pub returns-in_err-new : goal.returns-in_err-new
returns-in_err-new g c = search rules

pub loop-value-preserved : goal.loop-value-preserved
loop-value-preserved g c = grind (arith, common_steps)

pub returns-in_err-push : goal.returns-in_err-push
returns-in_err-push g c = search rules

pub returns : goal.returns
returns g c = grind (arith, common_steps)
