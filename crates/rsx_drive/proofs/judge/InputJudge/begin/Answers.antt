use Rattle.std.proofs.Common.{not, [], refl, sym, ap, subst, ◌∙◌}
use Rattle.std.specs.String.{string_bytes}
use Rattle.std.proofs.lemmas.List.{append-nil}
use Rattle.rsx_drive.proofs.Parts.{blank_stands, expression_stands, none_of}
use Rattle.rsx_drive.proofs.judge.InputJudge.begin.Goals as goal

pub returns-then-is_none-clause-answered : goal.returns-then-is_none-clause-answered
returns-then-is_none-clause-answered g c = λ style lines text s. (
  [],
  sym (append-nil (string_bytes c.args.out.now)),
  blank_stands g.E.AnswersExpressions.answers style c.args.self.now _ lines text c.args.line.now (record { styled = refl; counted = c.saturating_total-number.ensures }) c.requires.between c.requires.between
      (sym c.written_place.ensures ∙ none_of c.written_place.result (c.is_none.ensures ∙ ap not c.if-is_none.true)) s,
)

pub returns-in-Ok-clause-answered : goal.returns-in-Ok-clause-answered
returns-in-Ok-clause-answered g c = λ style lines text s. (
  [],
  sym (append-nil (string_bytes c.args.out.now)),
  c.in-Ok.ensures.answered style lines text s,
)

pub returns-in-Ok-answer-clause-answered : goal.returns-in-Ok-answer-clause-answered
returns-in-Ok-answer-clause-answered g c = λ style lines text s.
    let added = c.in-Ok-answer.ensures.added in
    let answer = subst (λ n. g.E.AnswersExpressions.answers c.args.self.now.style n c.args.line.now added.0) c.saturating_total-number.ensures added.2 in (
      added.0,
      added.1,
      expression_stands g.E.AnswersExpressions.answers style c.args.self.now _ lines text c.args.line.now added.0 (record { styled = refl; counted = c.saturating_total-number.ensures }) c.requires.between c.requires.between answer s,
    )
