use Rattle.std.proofs.Common.{rules}
use Rattle.rsx_gate.proofs.gate.Pass.value.Goals as goal

pub returns : goal.returns
returns g c = search rules
