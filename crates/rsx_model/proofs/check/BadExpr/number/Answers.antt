use Rattle.std.proofs.Common.{rules}
use Rattle.rsx_model.proofs.check.BadExpr.number.Goals as goal

pub returns-in-Number : goal.returns-in-Number
returns-in-Number c = search rules
