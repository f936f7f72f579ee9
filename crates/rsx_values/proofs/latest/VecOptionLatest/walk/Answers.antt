use Rattle.std.proofs.Common.{rules, arith}
use Rattle.std.proofs.lemmas.Grind.{common_steps}
use Rattle.rsx_values.proofs.latest.VecOptionLatest.walk.Goals as goal

pub loop-number-init : goal.loop-number-init
loop-number-init g c = search rules

pub loop-number-preserved-in-Continue-1 : goal.loop-number-preserved-in-Continue-1
loop-number-preserved-in-Continue-1 g c = search rules

pub returns-in_err-push_row-in-Next : goal.returns-in_err-push_row-in-Next
returns-in_err-push_row-in-Next g c = search rules

pub returns-then-stops : goal.returns-then-stops
returns-then-stops g c = search rules

pub loop-number-preserved : goal.loop-number-preserved
loop-number-preserved g c = search rules

pub returns-in-Error : goal.returns-in-Error
returns-in-Error g c = search rules

pub returns-then-left-eq0 : goal.returns-then-left-eq0
returns-then-left-eq0 g c = grind (arith, common_steps)

pub returns : goal.returns
returns g c = grind (arith, common_steps)
