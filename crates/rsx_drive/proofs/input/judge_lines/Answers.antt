use Rattle.std.proofs.Common.{[], subst}
use Rattle.rsx_drive.specs.Judged.{StandsFor}
use Rattle.rsx_drive.proofs.input.judge_lines.Goals as goal

pub answer_lines-requires : goal.answer_lines-requires
answer_lines-requires g c = subst (λ style. StandsFor g.E.AnswersExpressions.answers style c.new-judge.result [] []) c.in-Plain.is c.new-judge.ensures

pub answer_lines-requires-in-Explained : goal.answer_lines-requires-in-Explained
answer_lines-requires-in-Explained g c = subst (λ style. StandsFor g.E.AnswersExpressions.answers style c.new-judge.result [] []) c.in-Explained.is c.new-judge.ensures
