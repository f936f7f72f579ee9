use Rattle.std.proofs.Common.{rules, arith}
use Rattle.rsx_values.proofs.Records.{one_time, no_times}
use Rattle.rsx_values.proofs.record.add_times.Goals as goal

pub loop-init : goal.loop-init
loop-init c = search rules

pub returns-in_err-push : goal.returns-in_err-push
returns-in_err-push c = search rules

pub loop-preserved : goal.loop-preserved
loop-preserved c = grind (arith, one_time, no_times)

pub returns : goal.returns
returns c = search rules
