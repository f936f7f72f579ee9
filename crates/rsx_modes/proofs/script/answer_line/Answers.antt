use Rattle.std.proofs.Common.{[], sym, ◌∷◌, ◌++◌}
use Rattle.std.specs.String.{string_bytes}
use Rattle.std.proofs.lemmas.List.{append-nil}
use Rattle.rsx_modes.proofs.Lines.{blank_answered, line_answered}
use Rattle.rsx_modes.proofs.script.answer_line.Goals as goal

pub returns-in-Ok-None-clause-answered : goal.returns-in-Ok-None-clause-answered
returns-in-Ok-None-clause-answered c = λ view lines text s. (
  [],
  sym (append-nil (string_bytes c.args.out.now)),
  blank_answered view c.args.session.now c.args.line.now lines text (rw c.in-Ok-None.field-0-is at c.in-Ok-None.ensures.meaning) s,
)

pub returns-in-Ok-clause-answered : goal.returns-in-Ok-clause-answered
returns-in-Ok-clause-answered c = λ view lines text s.
    let led = c.in-Ok.ensures.leads in (
      led.0 ++ 10 ∷ [],
      led.1,
      line_answered view c.args.session.now c.answer.new.self c.in-Ok-Some.command c.args.line.now led.0 lines text (rw c.in-Ok-Some.field-0-is at c.in-Ok-Some.ensures.meaning) led.2 s,
    )
