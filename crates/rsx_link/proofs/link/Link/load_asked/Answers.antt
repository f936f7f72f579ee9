use Rattle.std.proofs.Common.{arith}
use Rattle.rsx_link.proofs.Keeps.{sees_asked}
use Rattle.rsx_link.proofs.link.Link.load_asked.Goals as goal

pub load-requires : goal.load-requires
load-requires g c = let sized = c.args.self.now.sized in (c.requires.0, omega arith, sees_asked _ _ _ c.requires.1)
