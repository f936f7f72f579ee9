use Rattle.std.proofs.Common.{◌≡◌, Ok, ap, ◌∙◌}
use Rattle.rsx_tck.specs.declared.line.Line.TheVariants as kinds
use Rattle.rsx_tck.specs.Reading.{line_at}
use Rattle.rsx_tck.proofs.Openings.{wrong_last, event_taken, end_taken}
use Rattle.rsx_tck.proofs.reader.TraceReader.take_in.Goals as goal

pub returns-in-Err-clause-place : goal.returns-in-Err-clause-place
returns-in-Err-clause-place c = λ parts h.
    rw c.column_of.ensures (wrong_last parts c.args.line.now c.args.self.now.stamped c.args.self.now.events.items c.in-Err.wrong.left h c.in-Err.ensures)

pub returns-in-Ok-End-clause-taken : goal.returns-in-Ok-End-clause-taken
returns-in-Ok-End-clause-taken c = λ parts h.
    let end : line_at c.args.self.now.stamped c.args.line.now ≡ Ok kinds.End = c.in-Ok-End.ensures ∙ ap (λ l. Ok l) c.in-Ok-End.field-0-is in
    end_taken parts c.args.line.now c.args.self.now.stamped c.args.self.now.events.items h end

pub returns-in-Ok-clause-taken : goal.returns-in-Ok-clause-taken
returns-in-Ok-clause-taken c = λ parts h.
    let e = c.in-Ok-Event.event in
    let event : line_at c.args.self.now.stamped c.args.line.now ≡ Ok (kinds.Event e) = c.in-Ok-Event.ensures ∙ ap (λ l. Ok l) c.in-Ok-Event.field-0-is in
    rw c.in-Ok.ensures.items (event_taken parts c.args.line.now c.args.self.now.stamped c.args.self.now.events.items e h event)
