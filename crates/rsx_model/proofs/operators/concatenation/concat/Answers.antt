use Rattle.std.proofs.Common.{rules, arith}
use Rattle.std.proofs.lemmas.Grind.{common_steps}
use Rattle.rsx_model.proofs.operators.concatenation.concat.Goals as goal

pub loop-value-init : goal.loop-value-init
loop-value-init g c = search rules

pub returns-in_err-append : goal.returns-in_err-append
returns-in_err-append g c = search rules

pub returns-then-ne : goal.returns-then-ne
returns-then-ne g c = search rules

pub loop-value-preserved : goal.loop-value-preserved
loop-value-preserved g c = grind (arith, common_steps)

pub returns : goal.returns
returns g c = grind (arith, common_steps)
