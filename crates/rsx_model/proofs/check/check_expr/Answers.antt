use Rattle.std.proofs.Common.{rules}
use Rattle.rsx_model.proofs.check.check_expr.Goals as goal

pub returns-in-Some : goal.returns-in-Some
returns-in-Some g c = search rules
