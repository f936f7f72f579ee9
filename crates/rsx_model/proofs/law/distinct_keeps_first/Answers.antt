use Rattle.rsx_model.proofs.Laws.{distinct_keeps_first_law}
use Rattle.rsx_model.proofs.law.distinct_keeps_first.Goals as goal

pub returns : goal.returns
returns g c = λ m f xs keys x h. distinct_keeps_first_law m f xs keys x h
