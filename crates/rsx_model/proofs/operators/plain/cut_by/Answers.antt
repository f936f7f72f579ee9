use Rattle.std.proofs.Common.{rules}
use Rattle.rsx_model.proofs.operators.plain.cut_by.Goals as goal

pub returns-clause-ending : goal.returns-clause-ending
returns-clause-ending g c = search rules
