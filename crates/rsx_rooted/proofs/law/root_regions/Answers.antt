use Rattle.rsx_rooted.proofs.Regions.{root_regions}
use Rattle.rsx_rooted.proofs.law.root_regions.Goals as goal

pub returns : goal.returns
returns g c = root_regions g.M.Machine
