use Rattle.rsx_delayed.proofs.Rests.{nothing_chosen}
use Rattle.rsx_delayed.proofs.law.nothing_chosen.Goals as goal

pub returns : goal.returns
returns g c = nothing_chosen
