use Rattle.rsx_rooted.proofs.Regions.{two_regions}
use Rattle.rsx_rooted.proofs.law.two_regions.Goals as goal

pub returns : goal.returns
returns g c = two_regions g.M.Machine
