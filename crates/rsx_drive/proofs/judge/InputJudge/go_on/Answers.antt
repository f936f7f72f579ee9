use Rattle.std.proofs.Common.{[], ◌∷◌, ◌++◌, refl, sym, subst}
use Rattle.std.specs.String.{string_bytes}
use Rattle.std.proofs.lemmas.List.{append-nil}
use Rattle.rsx_tck.specs.Opening.{HasCome}
use Rattle.rsx_drive.specs.Judged.{IsRefusedBy, IsTraceAnswer, judging}
use Rattle.rsx_drive.proofs.Parts.{event_stands, end_stands, bad_refused}
use Rattle.rsx_drive.proofs.judge.InputJudge.go_on.Goals as goal

pub returns-in-Ok-Open-clause-answered : goal.returns-in-Ok-Open-clause-answered
returns-in-Ok-Open-clause-answered g c = λ style lines text s. (
  [],
  sym (append-nil (string_bytes c.args.out.now)),
  event_stands g.E.AnswersExpressions.answers style (judging c.args.self.now c.args.reader) _ lines text c.args.line.now c.args.reader c.take_in.new.self (record { styled = refl; counted = c.saturating_total-number.ensures }) refl refl refl
      (λ parts h. subst (λ p. HasCome p c.take_in.new.self (parts ++ c.args.line.now ∷ [])) c.in-Ok-Open.field-0-is (c.in-Ok-Open.ensures.taken parts h)) s,
)

pub returns-in-Ok-clause-answered : goal.returns-in-Ok-clause-answered
returns-in-Ok-clause-answered g c = λ style lines text s.
    let added = c.in-Ok.ensures.added in
    let report = subst (λ events. IsTraceAnswer c.args.self.now.style c.args.self.now.first events added.0) c.events.ensures added.2 in (
      added.0,
      added.1,
      end_stands g.E.AnswersExpressions.answers style (judging c.args.self.now c.args.reader) _ lines text c.args.line.now added.0 c.args.reader c.take_in.new.self.events.items (record { styled = refl; counted = c.saturating_total-number.ensures }) refl c.requires.between
          (λ parts h. subst (λ p. HasCome p c.take_in.new.self (parts ++ c.args.line.now ∷ [])) c.in-Ok-Ended.field-0-is (c.in-Ok-Ended.ensures.taken parts h)) report s,
    )

pub returns-clause-refused : goal.returns-clause-refused
returns-clause-refused g c = λ style lines text others s.
    subst (λ refusal. IsRefusedBy g.E.AnswersExpressions.answers style lines text (c.args.line.now ∷ others) refusal) (sym c.refusal_of.ensures)
    (bad_refused g.E.AnswersExpressions.answers style (judging c.args.self.now c.args.reader) lines text c.args.line.now others c.in-Err.bad c.args.reader refl c.in-Err.ensures.place s)
