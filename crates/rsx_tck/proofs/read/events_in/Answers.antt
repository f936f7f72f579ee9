use Rattle.std.proofs.Common.{◌≡◌, ◌++◌, ◌∷◌, [], ◌<◌, length, Ok, arith, ap, ◌∙◌}
use Rattle.std.proofs.lemmas.Bool.Decides.{nat_tests}
use Rattle.rsx_tck.specs.declared.line.Line.TheVariants as kinds
use Rattle.rsx_tck.specs.declared.event.Stamped.{Stamped}
use Rattle.rsx_tck.specs.Texts.{lines}
use Rattle.rsx_tck.specs.Reading.{events_of, line_at}
use Rattle.rsx_tck.proofs.Lines.{goes_on, is_wrong, is_done, goes_past, has_no_end}
use Rattle.rsx_tck.proofs.read.events_in.Goals as goal

pub returns-in-Err : goal.returns-in-Err
returns-in-Err c =
    rw c.refusal.ensures (is_wrong c.lines.events.items c.lines.number c.args.stamped c.lines.rest.now c.next_line.result.0.now c.next_line.result.1.now c.in-Err.wrong.left (events_of 2 c.args.stamped (lines c.args.text.now)) c.next_line.ensures.lines c.in-Err.ensures c.lines.invariant.read)

pub returns-then-is_empty : goal.returns-then-is_empty
returns-then-is_empty c =
    let end : line_at c.args.stamped c.next_line.result.0.now ≡ Ok kinds.End = c.in-Ok-End.ensures ∙ ap (λ l. Ok l) c.in-Ok-End.field-0-is in
    is_done c.lines.events.items c.lines.number c.args.stamped c.lines.rest.now c.next_line.result.0.now c.next_line.result.1.now (events_of 2 c.args.stamped (lines c.args.text.now)) c.next_line.ensures.lines end (grind (arith, nat_tests)) c.lines.invariant.read

pub returns-in-Ok-End : goal.returns-in-Ok-End
returns-in-Ok-End c =
    let end : line_at c.args.stamped c.next_line.result.0.now ≡ Ok kinds.End = c.in-Ok-End.ensures ∙ ap (λ l. Ok l) c.in-Ok-End.field-0-is in
    let some : 0 < length c.next_line.result.1.now = grind (arith, nat_tests) in
    goes_past c.lines.events.items c.lines.number c.args.stamped c.lines.rest.now c.next_line.result.0.now c.next_line.result.1.now (events_of 2 c.args.stamped (lines c.args.text.now)) c.next_line.ensures.lines end some c.lines.invariant.read

pub lines-preserved : goal.lines-preserved
lines-preserved c =
    let e = c.in-Ok-Event.event in
    let event : line_at c.args.stamped c.next_line.result.0.now ≡ Ok (kinds.Event e) = c.in-Ok-Event.ensures ∙ ap (λ l. Ok l) c.in-Ok-Event.field-0-is in
    let pushed : c.push.new.self.items ≡ c.lines.events.items ++ e ∷ [] = c.in_ok-push-in-Ok-Event.ensures.items ∙ ap (λ (x : Stamped). c.lines.events.items ++ x ∷ []) c.in-Ok-Event.event-is in
    record {
      read = rw pushed (goes_on c.lines.events.items c.lines.number c.args.stamped c.lines.rest.now c.next_line.result.0.now c.next_line.result.1.now e (events_of 2 c.args.stamped (lines c.args.text.now)) c.next_line.ensures.lines event c.lines.invariant.read);
      counted = omega arith;
    }

pub returns : goal.returns
returns c = has_no_end c.lines.events.items c.lines.number c.args.stamped c.lines.rest.now (events_of 2 c.args.stamped (lines c.args.text.now)) (grind (arith, nat_tests)) c.lines.invariant.read
