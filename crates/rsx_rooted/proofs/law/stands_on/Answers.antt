use Rattle.rsx_rooted.proofs.Regions.{stands_on}
use Rattle.rsx_rooted.proofs.law.stands_on.Goals as goal

pub returns : goal.returns
returns g c = stands_on g.M.Machine
