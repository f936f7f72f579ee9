use Rattle.std.proofs.Common.{arith}
use Rattle.rsx_gate.proofs.Keeps.{gives_up}
use Rattle.rsx_gate.proofs.gate.Gate.release.Goals as goal

pub swap-requires : goal.swap-requires
swap-requires g c = let sized = c.args.self.now.sized.0 in let h = c.requires.1 in (h.0, omega arith, gives_up g.T.Kept.fits _ _ _ _ c.requires.0 h.3 h.4 h.1 c.requires.2)
