use Rattle.rsx_drive.proofs.Parts.{end_refused}
use Rattle.rsx_drive.proofs.judge.InputJudge.finish.Goals as goal

pub returns-in-Some-clause-refused : goal.returns-in-Some-clause-refused
returns-in-Some-clause-refused g c = λ style lines text s. end_refused g.E.AnswersExpressions.answers style c.args.self.now lines text c.in-Some.field-0 c.in-Some.is s
