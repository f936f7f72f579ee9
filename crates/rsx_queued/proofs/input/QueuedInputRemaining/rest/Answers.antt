use Rattle.std.proofs.Common.{rules, arith}
use Rattle.std.proofs.lemmas.Grind.{common_steps}
use Rattle.rsx_queued.proofs.input.QueuedInputRemaining.rest.Goals as goal

pub returns-then-is_gone : goal.returns-then-is_gone
returns-then-is_gone g c = search rules

pub returns-in_err-copy_queue : goal.returns-in_err-copy_queue
returns-in_err-copy_queue g c = search rules

pub loop-item-init : goal.loop-item-init
loop-item-init g c = search rules

pub offset_bounds-items-item-index : goal.offset_bounds-items-item-index
offset_bounds-items-item-index g c = search rules

pub returns-in_err-copy-in-Open : goal.returns-in_err-copy-in-Open
returns-in_err-copy-in-Open g c = search rules

pub returns-in_err-push-in-Open : goal.returns-in_err-push-in-Open
returns-in_err-push-in-Open g c = search rules

pub loop-item-preserved : goal.loop-item-preserved
loop-item-preserved g c = grind (arith, common_steps)

pub returns-after-loop-item : goal.returns-after-loop-item
returns-after-loop-item g c = grind (arith, common_steps)

pub returns-in-Completion : goal.returns-in-Completion
returns-in-Completion g c = search rules

pub returns-in-Failure : goal.returns-in-Failure
returns-in-Failure g c = search rules

pub returns-in-Taken : goal.returns-in-Taken
returns-in-Taken g c = search rules
