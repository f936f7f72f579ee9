use Rattle.rsx_link.proofs.PlaceRuled.{offered_is_at_home}
use Rattle.rsx_link.proofs.place_laws.offered_is_at_home.Goals as goal

pub returns : goal.returns
returns g c = offered_is_at_home _ _
