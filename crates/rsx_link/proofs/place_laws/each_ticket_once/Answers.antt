use Rattle.rsx_link.proofs.PlaceRuled.{each_ticket_once}
use Rattle.rsx_link.proofs.place_laws.each_ticket_once.Goals as goal

pub returns : goal.returns
returns g c = each_ticket_once _ _
