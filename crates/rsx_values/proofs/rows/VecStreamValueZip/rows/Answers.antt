use Rattle.std.proofs.Common.{rules, arith}
use Rattle.rsx_values.proofs.JoiningPlaces.{dropped_none, rows_step}
use Rattle.rsx_values.proofs.rows.VecStreamValueZip.rows.Goals as goal

pub loop-at-init : goal.loop-at-init
loop-at-init g c = grind (arith, dropped_none, rows_step)

pub returns-in_err-items : goal.returns-in_err-items
returns-in_err-items g c = search rules

pub returns-in_err-row : goal.returns-in_err-row
returns-in_err-row g c = search rules

pub returns-in_err-push : goal.returns-in_err-push
returns-in_err-push g c = search rules

pub loop-at-preserved : goal.loop-at-preserved
loop-at-preserved g c = grind (arith, dropped_none, rows_step)

pub returns : goal.returns
returns g c = search rules
