use Rattle.rsx_model.proofs.Laws.{never_a_bad_request_law}
use Rattle.rsx_model.proofs.law.never_a_bad_request.Goals as goal

pub returns : goal.returns
returns g c = λ w e. never_a_bad_request_law w e
