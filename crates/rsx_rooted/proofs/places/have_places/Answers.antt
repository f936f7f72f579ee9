use Rattle.std.proofs.Common.{arith}
use Rattle.rsx_rooted.proofs.places.have_places.Goals as goal

pub have_places_from-requires : goal.have_places_from-requires
have_places_from-requires g c = let few = c.requires in omega (arith, few)
