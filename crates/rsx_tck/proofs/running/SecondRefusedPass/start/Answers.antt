use Rattle.rsx_tck.specs.Laws.Refusing.{knows_unrefused-none}
use Rattle.rsx_tck.proofs.running.SecondRefusedPass.start.Goals as goal

pub returns : goal.returns
returns c = λ s. knows_unrefused-none c.none.result.flags s c.none.ensures.all c.none.ensures.none
