use Rattle.rsx_region.proofs.Cancelling.{cancels_dead}
use Rattle.rsx_region.proofs.law.cancels.Goals as goal

pub returns : goal.returns
returns g c = cancels_dead g.N.Machine
