use Rattle.std.proofs.Common.{◌<◌}
use Rattle.rsx_app.proofs.lines.Lines.answer_all.Given as goal

abbrev pub invariant-loop : goal.invariant-loop
invariant-loop g l = 0 < l.self.number
