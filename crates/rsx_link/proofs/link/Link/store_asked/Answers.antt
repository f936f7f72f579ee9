use Rattle.std.proofs.Common.{arith, rules}
use Rattle.rsx_link.proofs.Keeps.{asks}
use Rattle.rsx_link.proofs.link.Link.store_asked.Goals as goal

pub store-requires : goal.store-requires
store-requires g c = let sized = c.args.self.now.sized in (c.requires.seat.0, omega arith, asks _ _ _ _ c.requires.seat.1 c.requires.rises)

pub returns : goal.returns
returns g c = search rules
