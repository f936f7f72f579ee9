use Rattle.std.proofs.Common.{rules}
use Rattle.rsx_queued.proofs.inputs.VecInputToPick.push_input.Goals as goal

pub returns-in_err-value : goal.returns-in_err-value
returns-in_err-value g c = search rules

pub returns-in_err-new-in-Some : goal.returns-in_err-new-in-Some
returns-in_err-new-in-Some g c = search rules

pub returns-in_err-push-in-Some : goal.returns-in_err-push-in-Some
returns-in_err-push-in-Some g c = search rules

pub returns-in_ok-push-in-Some : goal.returns-in_ok-push-in-Some
returns-in_ok-push-in-Some g c = search rules

pub returns-in-None : goal.returns-in-None
returns-in-None g c = search rules
