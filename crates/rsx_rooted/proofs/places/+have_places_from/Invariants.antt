use Rattle.std.proofs.Common.{length}
use Rattle.rsx_rooted.proofs.places.+have_places_from.Given as goal

abbrev pub decreases-have_places_from : goal.decreases-have_places_from
decreases-have_places_from g l = length l.hubs.now
