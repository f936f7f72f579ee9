use Rattle.std.proofs.Common.{refl}
use Rattle.rsx_drive.proofs.Parts.{trace_begins}
use Rattle.rsx_drive.proofs.judge.InputJudge.begin_trace.Goals as goal

pub returns-in-Ok-clause-answered : goal.returns-in-Ok-clause-answered
returns-in-Ok-clause-answered g c = λ style lines text s.
    trace_begins g.E.AnswersExpressions.answers style c.args.self.now _ lines text c.args.line.now c.in-Ok.reader (record { styled = refl; counted = c.requires.numbered }) c.requires.between refl c.requires.numbered c.in-Ok.ensures.taken s
