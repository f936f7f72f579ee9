use Rattle.std.proofs.Common.{rules}
use Rattle.rsx_model.proofs.check.refusal_of.Goals as goal

pub returns : goal.returns
returns g c = search rules
