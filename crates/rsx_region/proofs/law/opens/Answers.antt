use Rattle.rsx_region.proofs.Openings.{opens}
use Rattle.rsx_region.proofs.law.opens.Goals as goal

pub returns : goal.returns
returns g c = opens g.N.Machine
