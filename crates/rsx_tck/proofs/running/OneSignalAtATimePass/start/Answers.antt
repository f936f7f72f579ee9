use Rattle.rsx_tck.specs.Laws.Running.{knows_signal-none}
use Rattle.rsx_tck.proofs.running.OneSignalAtATimePass.start.Goals as goal

pub returns : goal.returns
returns c = knows_signal-none
