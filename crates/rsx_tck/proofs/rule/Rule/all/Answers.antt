use Rattle.std.proofs.Common.{rules}
use Rattle.rsx_tck.proofs.rule.Rule.all.Goals as goal

pub returns : goal.returns
returns c = search rules
