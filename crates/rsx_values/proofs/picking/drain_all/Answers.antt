use Rattle.std.proofs.Common.{rules, arith}
use Rattle.std.proofs.lemmas.Grind.{common_steps}
use Rattle.rsx_values.proofs.picking.drain_all.Goals as goal

pub loop-input-init : goal.loop-input-init
loop-input-init g c = search rules

pub returns-in_err-drain : goal.returns-in_err-drain
returns-in_err-drain g c = search rules

pub returns-then-branch : goal.returns-then-branch
returns-then-branch g c = search rules

pub loop-input-preserved : goal.loop-input-preserved
loop-input-preserved g c = search rules

pub returns : goal.returns
returns g c = grind (arith, common_steps)
