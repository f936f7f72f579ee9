use Rattle.rsx_gate.proofs.Runs.{gone}
use Rattle.rsx_gate.proofs.laws.gone_has_no_note.Goals as goal

pub returns : goal.returns
returns c = gone
