use Rattle.std.proofs.Common.{refl}
use Rattle.rsx_model.proofs.lanes_law.group_by_worked.Goals as goal

pub returns-clause-limit : goal.returns-clause-limit
returns-clause-limit c = (refl, refl)
