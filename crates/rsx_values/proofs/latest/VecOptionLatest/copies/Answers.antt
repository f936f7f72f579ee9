use Rattle.std.proofs.Common.{rules, arith}
use Rattle.std.proofs.lemmas.Grind.{common_steps}
use Rattle.rsx_values.proofs.latest.VecOptionLatest.copies.Goals as goal

pub loop-latest-init : goal.loop-latest-init
loop-latest-init g c = search rules

pub offset_bounds-latest-items-latest-index : goal.offset_bounds-latest-items-latest-index
offset_bounds-latest-items-latest-index g c = search rules

pub returns-in_err-copy-in-Some : goal.returns-in_err-copy-in-Some
returns-in_err-copy-in-Some g c = search rules

pub returns-in_err-push-in-Some : goal.returns-in_err-push-in-Some
returns-in_err-push-in-Some g c = search rules

pub returns-in-None : goal.returns-in-None
returns-in-None g c = grind (arith, common_steps)

pub loop-latest-preserved : goal.loop-latest-preserved
loop-latest-preserved g c = grind (arith, common_steps)

pub returns : goal.returns
returns g c = grind (arith, common_steps)
