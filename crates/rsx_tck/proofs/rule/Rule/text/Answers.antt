use Rattle.std.proofs.Common.{rules}
use Rattle.rsx_tck.proofs.rule.Rule.text.Goals as goal

pub returns-in-Rule2_12 : goal.returns-in-Rule2_12
returns-in-Rule2_12 c = search rules
