use Rattle.std.proofs.Common.{rules}
use Rattle.rsx_tck.proofs.rule.VerdictDisplay.fmt.Goals as goal

pub returns-in-Broken-clause-writes : goal.returns-in-Broken-clause-writes
returns-in-Broken-clause-writes g c = search rules
