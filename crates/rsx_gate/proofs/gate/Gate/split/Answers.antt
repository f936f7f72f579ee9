use Rattle.std.proofs.Common.{arith}
use Rattle.rsx_gate.proofs.Keeps.{splits}
use Rattle.rsx_gate.proofs.gate.Gate.split.Goals as goal

pub split_seat-requires : goal.split_seat-requires
split_seat-requires g c = let sized = c.args.self.now.sized.0 in (c.requires.seat.0, omega arith, splits _ _ _ _ c.requires.parts)
