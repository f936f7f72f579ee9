use Rattle.std.proofs.Common.{arith}
use Rattle.rsx_link.proofs.PlaceKeeps.{draws}
use Rattle.rsx_link.proofs.places.Places.draw.Goals as goal

pub fetch_add-requires : goal.fetch_add-requires
fetch_add-requires g c = let sized = c.args.self.now.sized in (c.requires.0, omega arith, draws _ _ _ _ sized.1 sized.2 c.requires.1 c.requires.2 c.requires.3)
