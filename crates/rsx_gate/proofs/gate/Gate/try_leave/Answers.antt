use Rattle.std.proofs.Common.{arith}
use Rattle.rsx_gate.proofs.Keeps.{leaves}
use Rattle.rsx_gate.proofs.gate.Gate.try_leave.Goals as goal

pub compare_exchange-requires : goal.compare_exchange-requires
compare_exchange-requires g c = let sized = c.args.self.now.sized.0 in let h = c.requires.1 in (h.0, omega arith, leaves g.T.Kept.fits _ _ _ _ c.requires.0 h.3 h.4 h.1 c.requires.2)
