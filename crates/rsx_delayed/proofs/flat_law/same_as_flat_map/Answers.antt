use Rattle.rsx_delayed.proofs.Choices.{same_as_flat_map}
use Rattle.rsx_delayed.proofs.flat_law.same_as_flat_map.Goals as goal

pub returns : goal.returns
returns g c = same_as_flat_map
