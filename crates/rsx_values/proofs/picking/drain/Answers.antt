use Rattle.std.proofs.Common.{rules, arith}
use Rattle.std.proofs.lemmas.Grind.{common_steps}
use Rattle.rsx_values.proofs.picking.drain.Goals as goal

pub loop-signal-init : goal.loop-signal-init
loop-signal-init g c = search rules

pub returns-in_err-push : goal.returns-in_err-push
returns-in_err-push g c = search rules

pub returns-then-failed : goal.returns-then-failed
returns-then-failed g c = grind (arith, common_steps)

pub loop-signal-smaller : goal.loop-signal-smaller
loop-signal-smaller g c = search rules

pub loop-signal-preserved : goal.loop-signal-preserved
loop-signal-preserved g c = grind (arith, common_steps)

pub returns : goal.returns
returns g c = search rules
