use Rattle.std.proofs.Common.{arith}
use Rattle.rsx_link.proofs.Keeps.{joins}
use Rattle.rsx_link.proofs.link.Link.join_canceller.Goals as goal

pub join_seat-requires : goal.join_seat-requires
join_seat-requires g c = let sized = c.args.self.now.sized in (c.requires.seat.0, c.requires.other.0, c.requires.other.2, omega arith, joins _ _ _ _)
