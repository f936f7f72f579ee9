use Rattle.std.proofs.Common.{rules}
use Rattle.rsx_tck.proofs.running.after_signal.Goals as goal

pub returns-in-Some-Exit-rules-clause-state : goal.returns-in-Some-Exit-rules-clause-state
returns-in-Some-Exit-rules-clause-state c = search rules
