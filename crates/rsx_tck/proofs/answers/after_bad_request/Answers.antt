use Rattle.std.proofs.Common.{rules}
use Rattle.rsx_tck.proofs.answers.after_bad_request.Goals as goal

pub returns-in-Unanswered-Error-default-NonPositiveRequest-rules : goal.returns-in-Unanswered-Error-default-NonPositiveRequest-rules
returns-in-Unanswered-Error-default-NonPositiveRequest-rules c = search rules
