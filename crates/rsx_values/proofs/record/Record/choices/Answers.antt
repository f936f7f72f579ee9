use Rattle.std.proofs.Common.{rules, arith}
use Rattle.std.proofs.lemmas.Grind.{common_steps}
use Rattle.rsx_values.proofs.Records.{run_next, all_runs}
use Rattle.rsx_values.proofs.record.Record.choices.Goals as goal

pub loop-run-init : goal.loop-run-init
loop-run-init c = search rules

pub offset_bounds-run-items-run-index : goal.offset_bounds-run-items-run-index
offset_bounds-run-items-run-index c = search rules

pub returns-in_err-add_times : goal.returns-in_err-add_times
returns-in_err-add_times c = search rules

pub loop-run-preserved : goal.loop-run-preserved
loop-run-preserved c = grind (arith, run_next, all_runs)

pub returns : goal.returns
returns c = grind (arith, common_steps)
