use Rattle.std.proofs.Common.{rules, arith}
use Rattle.std.proofs.lemmas.Grind.{common_steps}
use Rattle.rsx_values.proofs.latest.VecOptionLatest.push_row.Goals as goal

pub returns-in_err-items : goal.returns-in_err-items
returns-in_err-items g c = search rules

pub returns-in_err-row-in-Some : goal.returns-in_err-row-in-Some
returns-in_err-row-in-Some g c = search rules

pub returns-in_err-push-in-Some : goal.returns-in_err-push-in-Some
returns-in_err-push-in-Some g c = search rules

pub returns-in_ok-push-in-Some : goal.returns-in_ok-push-in-Some
returns-in_ok-push-in-Some g c = grind (arith, common_steps)

pub returns-in-None : goal.returns-in-None
returns-in-None g c = search rules
