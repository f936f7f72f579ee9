use Rattle.rsx_model.proofs.Laws.{buffer_cuts_law}
use Rattle.rsx_model.proofs.law.buffer_cuts.Goals as goal

pub returns : goal.returns
returns g c = λ m n v lists rest cut. buffer_cuts_law m n v lists rest cut
