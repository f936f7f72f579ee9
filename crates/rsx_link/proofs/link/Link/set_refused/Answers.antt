use Rattle.std.proofs.Common.{arith}
use Rattle.rsx_link.proofs.Keeps.{refuses}
use Rattle.rsx_link.proofs.link.Link.set_refused.Goals as goal

pub fetch_or-requires : goal.fetch_or-requires
fetch_or-requires g c = let sized = c.args.self.now.sized in (c.requires.0, omega arith, refuses _ _ _ c.requires.1)
