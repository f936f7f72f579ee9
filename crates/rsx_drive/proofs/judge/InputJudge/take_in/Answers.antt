use Rattle.std.proofs.Common.{sym, ◌∙◌}
use Rattle.std.proofs.lemmas.Result.{on_ok_weaker, IfErr-weaker}
use Rattle.rsx_drive.proofs.Parts.{none_taken, taken_back}
use Rattle.rsx_drive.proofs.judge.InputJudge.take_in.Goals as goal

pub returns-in-None-clause-answered : goal.returns-in-None-clause-answered
returns-in-None-clause-answered g c =
    on_ok_weaker c.begin.result (λ h style lines text s. h style lines text (none_taken g.E.AnswersExpressions.answers style c.args.self.now lines text c.take.new.self (sym c.take.ensures.value ∙ c.in-None.is ∙ sym c.take.ensures.after) s)) c.begin.ensures.answered

pub returns-in-None-clause-refused : goal.returns-in-None-clause-refused
returns-in-None-clause-refused g c =
    IfErr-weaker c.begin.result _ _ (λ refusal h style lines text others s. h style lines text others (none_taken g.E.AnswersExpressions.answers style c.args.self.now lines text c.take.new.self (sym c.take.ensures.value ∙ c.in-None.is ∙ sym c.take.ensures.after) s)) c.begin.ensures.refused

pub returns-in-Some-clause-answered : goal.returns-in-Some-clause-answered
returns-in-Some-clause-answered g c =
    on_ok_weaker c.go_on.result (λ h style lines text s. h style lines text (taken_back g.E.AnswersExpressions.answers style c.args.self.now lines text c.in-Some.reader (sym c.take.ensures.value ∙ c.in-Some.is) s)) c.go_on.ensures.answered

pub returns-in-Some-clause-refused : goal.returns-in-Some-clause-refused
returns-in-Some-clause-refused g c =
    IfErr-weaker c.go_on.result _ _ (λ refusal h style lines text others s. h style lines text others (taken_back g.E.AnswersExpressions.answers style c.args.self.now lines text c.in-Some.reader (sym c.take.ensures.value ∙ c.in-Some.is) s)) c.go_on.ensures.refused
