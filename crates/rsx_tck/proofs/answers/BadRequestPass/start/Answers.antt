use Rattle.rsx_tck.specs.Laws.Answering.{knows_answer-none}
use Rattle.rsx_tck.proofs.answers.BadRequestPass.start.Goals as goal

pub returns : goal.returns
returns c = knows_answer-none
