use Rattle.rsx_delayed.proofs.Choices.{delayed_step}
use Rattle.rsx_delayed.proofs.law.one_choice.Goals as goal

pub returns : goal.returns
returns g c = delayed_step
