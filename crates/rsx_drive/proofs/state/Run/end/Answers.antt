use Rattle.std.proofs.Common.{◌≡◌, ◌+◌, [], ◌∷◌, ◌++◌, length, subst, sym, arith}
use Rattle.std.specs.String.{string_bytes}
use Rattle.std.proofs.lemmas.List.{nil_from_length, length-append}
use Rattle.std.proofs.lemmas.Bool.Decides.{nat_tests}
use Rattle.rsx_drive.specs.Answered.{IsStopped}
use Rattle.rsx_drive.proofs.Bytes.{last_lines, whole_lines}
use Rattle.rsx_drive.proofs.state.Run.end.Goals as goal

pub returns-in-Ok-clause-ended : goal.returns-in-Ok-clause-ended
returns-in-Ok-clause-ended g c = λ taken written at.
    let run = c.args.self.now in
    let all = whole_lines g.A.Answers.stands run.answers run.line.items run.number (string_bytes run.out) taken written at (nil_from_length run.line.items (grind (arith, nat_tests))) in
    subst (λ xs. g.A.Answers.ends xs (written ++ string_bytes run.out)) (sym all) (c.in-Ok.ensures.ended at.before (written ++ string_bytes run.out) at.answered)

pub returns-in-Err-clause-stopped : goal.returns-in-Err-clause-stopped
returns-in-Err-clause-stopped g c = λ taken written at.
    let run = c.args.self.now in
    let all = whole_lines g.A.Answers.stands run.answers run.line.items run.number (string_bytes run.out) taken written at (nil_from_length run.line.items (grind (arith, nat_tests))) in
    subst (λ xs. IsStopped g.A.Answers.refuses xs (written ++ string_bytes run.out) c.in-Err.fault) (sym all) (c.in-Err.ensures.stopped at.before (written ++ string_bytes run.out) at.answered at.counted)

pub returns-in-Err-end_line-clause-stopped : goal.returns-in-Err-end_line-clause-stopped
returns-in-Err-end_line-clause-stopped g c = λ taken written at.
    let run = c.args.self.now in
    let all = last_lines g.A.Answers.stands run.answers run.line.items run.number (string_bytes run.out) taken written at (grind (arith, nat_tests)) in
    let text = written ++ string_bytes c.end_line.new.self.out in
    subst (λ xs. IsStopped g.A.Answers.refuses xs text c.in-Err-end_line.fault) (sym all) (c.in-Err-end_line.ensures.stopped at.before [] written at.answered at.counted)

pub returns-in-Ok-finish-clause-ended : goal.returns-in-Ok-finish-clause-ended
returns-in-Ok-finish-clause-ended g c = λ taken written at.
    let run = c.args.self.now in
    let all = last_lines g.A.Answers.stands run.answers run.line.items run.number (string_bytes run.out) taken written at (grind (arith, nat_tests)) in
    let text = written ++ string_bytes c.end_line.new.self.out in
    subst (λ xs. g.A.Answers.ends xs text) (sym all) (c.in-Ok-finish.ensures.ended (at.before ++ run.line.items ∷ []) text (c.in_default.ensures.answered at.before written at.answered))

pub returns-in-Err-finish-clause-stopped : goal.returns-in-Err-finish-clause-stopped
returns-in-Err-finish-clause-stopped g c = λ taken written at.
    let run = c.args.self.now in
    let all = last_lines g.A.Answers.stands run.answers run.line.items run.number (string_bytes run.out) taken written at (grind (arith, nat_tests)) in
    let text = written ++ string_bytes c.end_line.new.self.out in
    let counted : c.end_line.new.self.number ≡ length (at.before ++ run.line.items ∷ []) + 1 = omega (arith, c.in_default.ensures.next, at.counted, length-append at.before (run.line.items ∷ [])) in
    subst (λ xs. IsStopped g.A.Answers.refuses xs text c.in-Err-finish.fault) (sym all)
    (c.in-Err-finish.ensures.stopped (at.before ++ run.line.items ∷ []) text (c.in_default.ensures.answered at.before written at.answered) counted)
