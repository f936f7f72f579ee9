use Rattle.rsx_gate.proofs.Runs.{one_pass}
use Rattle.rsx_gate.proofs.laws.at_most_one_pass.Goals as goal

pub returns : goal.returns
returns c = one_pass
