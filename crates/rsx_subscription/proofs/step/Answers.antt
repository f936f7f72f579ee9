use Rattle.std.proofs.Common.{rules}
use Rattle.rsx_subscription.proofs.step.Goals as goal

pub returns-in-Cancelled-Next-rules-clause-answer : goal.returns-in-Cancelled-Next-rules-clause-answer
returns-in-Cancelled-Next-rules-clause-answer c = search rules

pub returns-in-Open-Request-rules-2-clause-state : goal.returns-in-Open-Request-rules-2-clause-state
returns-in-Open-Request-rules-2-clause-state c = search rules
