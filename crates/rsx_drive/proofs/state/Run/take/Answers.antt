use Rattle.std.proofs.Common.{◌≡◌, false, subst, sym, arith, [], ◌∷◌, ◌++◌}
use Rattle.std.specs.String.{string_bytes}
use Rattle.std.proofs.lemmas.Bool.Decides.{nat_tests}
use Rattle.rsx_tck.specs.Texts.{lines}
use Rattle.rsx_tck.proofs.Lines.{newline}
use Rattle.rsx_drive.specs.Answered.{IsStopped}
use Rattle.rsx_drive.specs.Taken.{HasTaken}
use Rattle.rsx_drive.proofs.Bytes.{line_ends, ended_lines, byte_too_many}
use Rattle.rsx_drive.proofs.state.Run.take.Goals as goal

pub returns-in-Ok-clause-taken : goal.returns-in-Ok-clause-taken
returns-in-Ok-clause-taken g c = λ taken written at.
    let run = c.args.self.now in
    let next = c.end_line.new.self in
    let is : c.args.byte ≡ 10 = grind (arith, nat_tests, c.if-byte-eq10.true) in
    let ended = line_ends g.A.Answers.stands run.answers next.answers run.line.items run.number (string_bytes run.out) (string_bytes next.out) taken written next.line.items next.number at
    c.in-Ok.ensures.line c.in-Ok.ensures.next (c.in-Ok.ensures.answered at.before written at.answered) in
    subst (λ b. HasTaken g.A.Answers.stands next (taken ++ b ∷ []) written) (sym is) ended

pub returns-in-Err-clause-stopped : goal.returns-in-Err-clause-stopped
returns-in-Err-clause-stopped g c = λ taken written more at.
    let run = c.args.self.now in
    let is : c.args.byte ≡ 10 = grind (arith, nat_tests, c.if-byte-eq10.true) in
    let split = ended_lines g.A.Answers.stands run.answers run.line.items run.number (string_bytes run.out) taken written more at in
    let refused = c.in-Err.ensures.stopped at.before (lines more) written at.answered at.counted in
    let text = written ++ string_bytes c.end_line.new.self.out in
    let whole = subst (λ all. IsStopped g.A.Answers.refuses all text c.in-Err.fault) (sym split) refused in
    subst (λ b. IsStopped g.A.Answers.refuses (lines (taken ++ b ∷ more)) text c.in-Err.fault) (sym is) whole

pub returns-then-len-ge-MOST_BYTES-clause-stopped : goal.returns-then-len-ge-MOST_BYTES-clause-stopped
returns-then-len-ge-MOST_BYTES-clause-stopped g c = λ taken written more at.
    let run = c.args.self.now in
    let other : newline c.args.byte ≡ false = grind (arith, nat_tests, c.if-byte-eq10.false) in
    byte_too_many g.A.Answers.stands g.A.Answers.refuses run.answers run.line.items run.number (string_bytes run.out) taken written c.args.byte more
    (λ before text first others long stands. g.met.A.Answers.too_long run.answers before text first others long stands)
    other (omega (arith, c.len.ensures, c.if-len-ge-MOST_BYTES.true)) at
