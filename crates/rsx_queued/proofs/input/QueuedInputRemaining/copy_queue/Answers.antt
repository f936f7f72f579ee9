use Rattle.std.proofs.Common.{rules, arith}
use Rattle.std.proofs.lemmas.Grind.{common_steps}
use Rattle.rsx_queued.proofs.Queues.{copied_more}
use Rattle.rsx_queued.proofs.input.QueuedInputRemaining.copy_queue.Goals as goal

pub loop-at-init : goal.loop-at-init
loop-at-init g c = search rules

pub returns-in_err-copy-in-Some : goal.returns-in_err-copy-in-Some
returns-in_err-copy-in-Some g c = search rules

pub returns-in_err-push-in-Some : goal.returns-in_err-push-in-Some
returns-in_err-push-in-Some g c = search rules

pub unreachable-unreachable : goal.unreachable-unreachable
unreachable-unreachable g c = search rules

pub loop-at-preserved : goal.loop-at-preserved
loop-at-preserved g c = grind (arith, copied_more)

pub returns : goal.returns
returns g c = grind (arith, common_steps)
