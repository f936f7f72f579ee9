use Rattle.std.proofs.Common.{rules, arith}
use Rattle.std.proofs.lemmas.Grind.{common_steps}
use Rattle.rsx_values.proofs.merging.merged_of.Goals as goal

pub loop-signal-init : goal.loop-signal-init
loop-signal-init g c = search rules

pub loop-signal-preserved-in-Continue-1 : goal.loop-signal-preserved-in-Continue-1
loop-signal-preserved-in-Continue-1 g c = grind (arith, common_steps)

pub returns-in_err-push-in-Next : goal.returns-in_err-push-in-Next
returns-in_err-push-in-Next g c = search rules

pub loop-signal-preserved : goal.loop-signal-preserved
loop-signal-preserved g c = search rules

pub returns-in-Error : goal.returns-in-Error
returns-in-Error g c = search rules

pub returns : goal.returns
returns g c = grind (arith, common_steps)
