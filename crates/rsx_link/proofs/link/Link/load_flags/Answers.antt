use Rattle.std.proofs.Common.{arith}
use Rattle.rsx_link.proofs.Keeps.{sees_flags}
use Rattle.rsx_link.proofs.link.Link.load_flags.Goals as goal

pub load-requires : goal.load-requires
load-requires g c = let sized = c.args.self.now.sized in (c.requires.0, omega arith, sees_flags _ _ _ c.requires.1)
