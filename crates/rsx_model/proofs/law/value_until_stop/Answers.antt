use Rattle.rsx_model.proofs.UntilStop.{until_stop_law}
use Rattle.rsx_model.proofs.law.value_until_stop.Goals as goal

pub returns : goal.returns
returns g c = λ m hubs joins notes e s h. until_stop_law m hubs joins notes e s h
