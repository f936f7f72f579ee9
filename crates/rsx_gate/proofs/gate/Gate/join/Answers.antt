use Rattle.std.proofs.Common.{arith}
use Rattle.rsx_gate.proofs.Joining.{merges}
use Rattle.rsx_gate.proofs.gate.Gate.join.Goals as goal

pub join_seat-requires : goal.join_seat-requires
join_seat-requires g c = let mine = c.requires.0 in let theirs = c.requires.1 in let sized = c.args.self.now.sized.0 in (mine.0, theirs.0, theirs.1, omega arith, merges _ _ _ _ _ _ mine.3 theirs.4)
