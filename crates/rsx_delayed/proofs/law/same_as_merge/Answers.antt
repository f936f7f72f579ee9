use Rattle.rsx_delayed.proofs.Choices.{same_as_merge}
use Rattle.rsx_delayed.proofs.law.same_as_merge.Goals as goal

pub returns : goal.returns
returns g c = same_as_merge
