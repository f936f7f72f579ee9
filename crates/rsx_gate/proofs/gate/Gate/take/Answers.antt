use Rattle.std.proofs.Common.{arith}
use Rattle.rsx_gate.proofs.Keeps.{enters}
use Rattle.rsx_gate.proofs.gate.Gate.take.Goals as goal

pub swap-requires : goal.swap-requires
swap-requires g c = let sized = c.args.self.now.sized.0 in (c.requires.0, omega arith, enters g.T.Kept.fits _ _ _ _ c.requires.3)
