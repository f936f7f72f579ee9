use Rattle.rsx_tck.specs.Laws.Working.{knows_endings-none}
use Rattle.rsx_tck.proofs.running.NoCallInEndingPass.start.Goals as goal

pub returns : goal.returns
returns c = λ s. knows_endings-none c.none.result.flags s c.none.ensures.all c.none.ensures.none
