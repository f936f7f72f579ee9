use Rattle.rsx_gate.proofs.Runs.{missed}
use Rattle.rsx_gate.proofs.laws.missed_has_note.Goals as goal

pub returns : goal.returns
returns c = missed
