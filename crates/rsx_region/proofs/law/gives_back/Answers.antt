use Rattle.rsx_region.proofs.Givings.{gives_back}
use Rattle.rsx_region.proofs.law.gives_back.Goals as goal

pub returns : goal.returns
returns g c = gives_back g.N.Machine
