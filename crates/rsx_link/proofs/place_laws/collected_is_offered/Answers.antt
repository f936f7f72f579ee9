use Rattle.rsx_link.proofs.PlaceRuled.{collected_is_offered}
use Rattle.rsx_link.proofs.place_laws.collected_is_offered.Goals as goal

pub returns : goal.returns
returns g c = collected_is_offered _ _
