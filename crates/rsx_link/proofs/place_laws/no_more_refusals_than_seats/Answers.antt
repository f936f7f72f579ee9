use Rattle.rsx_link.proofs.PlaceRuled.{no_more_refusals_than_seats}
use Rattle.rsx_link.proofs.place_laws.no_more_refusals_than_seats.Goals as goal

pub returns : goal.returns
returns g c = no_more_refusals_than_seats _ _
