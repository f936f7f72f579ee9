use Rattle.std.proofs.Common.{◌<◌}
use Rattle.rsx_app.proofs.lines.Lines.take_in.Given as goal

abbrev pub invariant-loop-byte : goal.invariant-loop-byte
invariant-loop-byte g l = 0 < l.self.number
