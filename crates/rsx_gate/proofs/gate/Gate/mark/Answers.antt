use Rattle.std.proofs.Common.{arith}
use Rattle.rsx_gate.proofs.Keeps.{marks}
use Rattle.rsx_gate.proofs.gate.Gate.mark.Goals as goal

pub swap-requires : goal.swap-requires
swap-requires g c = let sized = c.args.self.now.sized.0 in let h = c.requires.1 in (h.0, omega arith, marks g.T.Kept.fits _ _ _ _ h.3 h.4)
