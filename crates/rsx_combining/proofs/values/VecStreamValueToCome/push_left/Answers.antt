use Rattle.std.proofs.Common.{rules}
use Rattle.rsx_combining.proofs.values.VecStreamValueToCome.push_left.Goals as goal

pub returns-in_err-value : goal.returns-in_err-value
returns-in_err-value g c = search rules

pub returns-in_err-push-in-Some : goal.returns-in_err-push-in-Some
returns-in_err-push-in-Some g c = search rules

pub returns-in_err-push-in-None : goal.returns-in_err-push-in-None
returns-in_err-push-in-None g c = search rules

pub returns-in_ok-push-in-Some : goal.returns-in_ok-push-in-Some
returns-in_ok-push-in-Some g c = search rules

pub returns-in_ok-push-in-None : goal.returns-in_ok-push-in-None
returns-in_ok-push-in-None g c = search rules
