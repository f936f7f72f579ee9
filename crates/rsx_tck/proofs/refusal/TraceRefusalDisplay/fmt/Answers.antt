use Rattle.std.proofs.Common.{arith}
use Rattle.std.proofs.lemmas.Grind.{common_steps}
use Rattle.rsx_tck.proofs.refusal.TraceRefusalDisplay.fmt.Goals as goal

pub returns-in-BadTrace-clause-writes : goal.returns-in-BadTrace-clause-writes
returns-in-BadTrace-clause-writes g c = grind (arith, common_steps)
