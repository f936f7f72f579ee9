use Rattle.std.proofs.Common.{◌++◌, take, ap, subst, sym, append_assoc, arith, ◌∙◌}
use Rattle.std.specs.String.{string_bytes}
use Rattle.std.proofs.lemmas.List.{length-take}
use Rattle.std.proofs.KnownBytes.{Consumes-trans, Appends-trans}
use Rattle.rsx_tck.specs.Texts.{lines}
use Rattle.rsx_drive.specs.Answered.{IsCut, IsStopped, Writes}
use Rattle.rsx_drive.specs.Taken.{HasTaken}
use Rattle.rsx_drive.proofs.Bytes.{reading_failed}
use Rattle.rsx_drive.proofs.Reading.{if_ended, if_more, writes_after}
use Rattle.rsx_drive.proofs.state.Run.answer_all.Goals as goal

pub returns-in-Ok-end-clause-ended : goal.returns-in-Ok-end-clause-ended
returns-in-Ok-end-clause-ended g c = λ taken written at.
    let now = c.loop.invariant.taken taken written at in
    let w = now.2 in
    let wrote = c.in_default.ensures.written (taken ++ now.0) (written ++ w.0) w.2 in
    let read = c.in-Ok-eq0.ensures.bytes in
    let out = string_bytes c.end.new.self.out in
    let ended = c.in-Ok-end.ensures.ended (taken ++ now.0) ((written ++ w.0) ++ wrote.0) wrote.2 in
    let text = w.0 ++ wrote.0 in
    if_ended _ _ _ now.0 c.in-Ok-eq0.field-0 c.read.new.buf (λ left. Writes _ _ (λ text. g.A.Answers.ends (lines (taken ++ left)) ((written ++ text) ++ out)))
    now.1 read.0 c.in-Ok-eq0.field-0-test (read.1 c.in-Ok-eq0.field-0-test (omega (arith, c.loop.invariant.room)))
    (text, Appends-trans _ _ _ w.0 wrote.0 w.1 wrote.1, subst (λ xs. g.A.Answers.ends (lines (taken ++ now.0)) (xs ++ out)) (append_assoc written w.0 wrote.0) ended)

pub returns-in-Err-end-clause-stopped : goal.returns-in-Err-end-clause-stopped
returns-in-Err-end-clause-stopped g c = λ taken written at.
    let now = c.loop.invariant.taken taken written at in
    let w = now.2 in
    let wrote = c.in_default.ensures.written (taken ++ now.0) (written ++ w.0) w.2 in
    let read = c.in-Ok-eq0.ensures.bytes in
    let out = string_bytes c.end.new.self.out in
    let fault = c.in-Err-end.fault in
    let stopped = c.in-Err-end.ensures.stopped (taken ++ now.0) ((written ++ w.0) ++ wrote.0) wrote.2 in
    let text = w.0 ++ wrote.0 in
    if_ended _ _ _ now.0 c.in-Ok-eq0.field-0 c.read.new.buf (λ left. Writes _ _ (λ text. IsStopped g.A.Answers.refuses (lines (taken ++ left)) ((written ++ text) ++ out) fault))
    now.1 read.0 c.in-Ok-eq0.field-0-test (read.1 c.in-Ok-eq0.field-0-test (omega (arith, c.loop.invariant.room)))
    (text, Appends-trans _ _ _ w.0 wrote.0 w.1 wrote.1, subst (λ xs. IsStopped g.A.Answers.refuses (lines (taken ++ now.0)) (xs ++ out) fault) (append_assoc written w.0 wrote.0) stopped)

pub returns-in-Err-take_in-clause-stopped : goal.returns-in-Err-take_in-clause-stopped
returns-in-Err-take_in-clause-stopped g c = λ taken written at.
    let now = c.loop.invariant.taken taken written at in
    let w = now.2 in
    let wrote = c.in_default.ensures.written (taken ++ now.0) (written ++ w.0) w.2 in
    let bytes = take c.in-Ok.count c.read.new.buf in
    let got = now.0 ++ bytes in
    let out = string_bytes c.take_in.new.self.out in
    let fault = c.in-Err-take_in.fault in
    let text = w.0 ++ wrote.0 in
    if_more _ _ got (λ left. Writes _ _ (λ text. IsStopped g.A.Answers.refuses (lines (taken ++ left)) ((written ++ text) ++ out) fault))
    (Consumes-trans _ _ _ now.0 bytes now.1 c.in-Ok.ensures.bytes.0)
    (λ more.
    let stopped = c.in-Err-take_in.ensures.stopped (taken ++ now.0) ((written ++ w.0) ++ wrote.0) more wrote.2 in
    let all = append_assoc (taken ++ now.0) bytes more ∙ append_assoc taken now.0 (bytes ++ more) ∙ ap (λ xs. taken ++ xs) (sym (append_assoc now.0 bytes more)) in
    writes_after _ _ _ text (λ t. IsStopped g.A.Answers.refuses (lines (((taken ++ now.0) ++ bytes) ++ more)) ((((written ++ w.0) ++ wrote.0) ++ t) ++ out) fault)
    (λ t. IsStopped g.A.Answers.refuses (lines (taken ++ (got ++ more))) ((written ++ t) ++ out) fault)
    (Appends-trans _ _ _ w.0 wrote.0 w.1 wrote.1)
    (λ t s.
    let texts = append_assoc (written ++ w.0) wrote.0 t ∙ append_assoc written w.0 (wrote.0 ++ t) ∙ ap (λ xs. written ++ xs) (sym (append_assoc w.0 wrote.0 t)) in
    subst (λ xs. IsStopped g.A.Answers.refuses (lines xs) ((written ++ (text ++ t)) ++ out) fault) all
    (subst (λ xs. IsStopped g.A.Answers.refuses (lines (((taken ++ now.0) ++ bytes) ++ more)) (xs ++ out) fault) texts s))
    stopped)

pub returns-in-Err-clause-stopped : goal.returns-in-Err-clause-stopped
returns-in-Err-clause-stopped g c = λ taken written at.
    let now = c.loop.invariant.taken taken written at in
    let w = now.2 in
    let out = string_bytes c.write.new.self.out in
    let fault = c.in-Err.fault in
    if_more _ _ now.0 (λ left. Writes _ _ (λ text. IsStopped g.A.Answers.refuses (lines (taken ++ left)) ((written ++ text) ++ out) fault)) now.1
    (λ more.
    writes_after _ _ _ w.0 (λ t. IsStopped g.A.Answers.refuses (lines ((taken ++ now.0) ++ more)) (((written ++ w.0) ++ t) ++ out) fault)
    (λ t. IsStopped g.A.Answers.refuses (lines (taken ++ (now.0 ++ more))) ((written ++ t) ++ out) fault) w.1
    (λ t s.
    subst (λ xs. IsStopped g.A.Answers.refuses (lines xs) ((written ++ (w.0 ++ t)) ++ out) fault) (append_assoc taken now.0 more)
    (subst (λ xs. IsStopped g.A.Answers.refuses (lines ((taken ++ now.0) ++ more)) (xs ++ out) fault) (append_assoc written w.0 t) s))
    (c.in-Err.ensures.stopped (taken ++ now.0) (written ++ w.0) more w.2))

pub returns-in-Err-read-clause-stopped : goal.returns-in-Err-read-clause-stopped
returns-in-Err-read-clause-stopped g c = λ taken written at.
    let now = c.loop.invariant.taken taken written at in
    let w = now.2 in
    let run = c.write.new.self in
    let wrote = c.in_default.ensures.written (taken ++ now.0) (written ++ w.0) w.2 in
    let out = string_bytes run.out in
    let text = w.0 ++ wrote.0 in
    let texts = append_assoc written w.0 wrote.0 in
    if_more _ _ now.0 (λ left. Writes _ _ (λ text. IsCut g.A.Answers.refuses (lines (taken ++ left)) ((written ++ text) ++ out))) now.1
    (λ more. (
      text,
      Appends-trans _ _ _ w.0 wrote.0 w.1 wrote.1,
      subst (λ xs. IsCut g.A.Answers.refuses (lines xs) ((written ++ text) ++ out)) (append_assoc taken now.0 more)
          (subst (λ xs. IsCut g.A.Answers.refuses (lines ((taken ++ now.0) ++ more)) (xs ++ out)) texts
          (reading_failed g.A.Answers.stands g.A.Answers.refuses run.answers run.line.items run.number out (taken ++ now.0) ((written ++ w.0) ++ wrote.0) more
          (λ before text others stands. g.met.A.Answers.wanting run.answers before text others stands) wrote.2)),
    ))

pub returns-clause-stopped : goal.returns-clause-stopped
returns-clause-stopped g c = λ taken written at.
    let now = c.loop.invariant.taken taken written at in
    let w = now.2 in
    let run = c.loop.self in
    let out = string_bytes run.out in
    if_more _ _ now.0 (λ left. Writes _ _ (λ text. IsCut g.A.Answers.refuses (lines (taken ++ left)) ((written ++ text) ++ out))) now.1
    (λ more. (
      w.0,
      w.1,
      subst (λ xs. IsCut g.A.Answers.refuses (lines xs) ((written ++ w.0) ++ out)) (append_assoc taken now.0 more)
          (reading_failed g.A.Answers.stands g.A.Answers.refuses run.answers run.line.items run.number out (taken ++ now.0) (written ++ w.0) more
          (λ before text others stands. g.met.A.Answers.wanting run.answers before text others stands) w.2),
    ))

pub loop-preserved : goal.loop-preserved
loop-preserved g c = record {
  taken = λ taken written at.
      let now = c.loop.invariant.taken taken written at in
      let w = now.2 in
      let wrote = c.in_default.ensures.written (taken ++ now.0) (written ++ w.0) w.2 in
      let bytes = take c.in-Ok.count c.read.new.buf in
      let got = now.0 ++ bytes in
      let text = w.0 ++ wrote.0 in
      let took = c.in_default-take_in.ensures.taken (taken ++ now.0) ((written ++ w.0) ++ wrote.0) wrote.2 in
      let texts = append_assoc (written ++ w.0) wrote.0 took.0 ∙ append_assoc written w.0 (wrote.0 ++ took.0) ∙ ap (λ xs. written ++ xs) (sym (append_assoc w.0 wrote.0 took.0)) in
      let run = c.take_in.new.self in (
        got,
        Consumes-trans _ _ _ now.0 bytes now.1 c.in-Ok.ensures.bytes.0,
        (
          text ++ took.0,
          Appends-trans _ _ _ text took.0 (Appends-trans _ _ _ w.0 wrote.0 w.1 wrote.1) took.1,
          subst (λ xs. HasTaken g.A.Answers.stands run xs (written ++ (text ++ took.0))) (append_assoc taken now.0 bytes)
              (subst (λ xs. HasTaken g.A.Answers.stands run ((taken ++ now.0) ++ bytes) xs) texts took.2),
        ),
      );
  number = omega (arith, c.loop.invariant.number, c.in_default.ensures.same, c.in_default-take_in.ensures.number, length-take c.in-Ok.count c.read.new.buf, c.loop.invariant.room);
  room = omega (arith, c.loop.invariant.room, c.read.auto.buf);
}
