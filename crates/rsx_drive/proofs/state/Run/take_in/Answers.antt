use Rattle.std.proofs.Common.{◌+◌, suc, [], ◌∷◌, ◌++◌, get_or, take, drop, subst, append_assoc, arith, ◌∙◌}
use Rattle.std.specs.String.{string_bytes}
use Rattle.std.proofs.lemmas.List.{take_all}
use Rattle.std.proofs.KnownBytes.{Appends-trans}
use Rattle.rsx_tck.specs.Texts.{lines}
use Rattle.rsx_drive.specs.Answered.{IsStopped}
use Rattle.rsx_drive.specs.Taken.{HasTaken}
use Rattle.rsx_drive.proofs.Writing.{one_more, whole_again}
use Rattle.rsx_drive.proofs.state.Run.take_in.Goals as goal

pub returns-in-Err-clause-stopped : goal.returns-in-Err-clause-stopped
returns-in-Err-clause-stopped g c = λ taken written more at.
    let i = c.loop-byte.byte-index in
    let bytes = c.args.bytes.now in
    let now = c.loop-byte.invariant.taken taken written at in
    let out = string_bytes c.take.new.self.out in
    let refused = c.in-Err.ensures.stopped (taken ++ take i bytes) (written ++ now.0) (drop (suc i) bytes ++ more) now.2 in
    let whole = subst (λ xs. IsStopped g.A.Answers.refuses (lines xs) ((written ++ now.0) ++ out) c.in-Err.fault) (whole_again taken bytes more i c.loop-byte-test.true) refused in
    (now.0, now.1, whole)

pub returns-in-Err-write_gathered-clause-stopped : goal.returns-in-Err-write_gathered-clause-stopped
returns-in-Err-write_gathered-clause-stopped g c = λ taken written more at.
    let i = c.loop-byte.byte-index in
    let bytes = c.args.bytes.now in
    let b = get_or bytes i 0 in
    let rest = drop (suc i) bytes ++ more in
    let out = string_bytes c.write_gathered.new.self.out in
    let fault = c.in-Err-write_gathered.fault in
    let now = c.loop-byte.invariant.taken taken written at in
    let byte = c.in_default.ensures.taken (taken ++ take i bytes) (written ++ now.0) now.2 in
    let cut = c.in-Err-write_gathered.ensures.stopped ((taken ++ take i bytes) ++ b ∷ []) (written ++ now.0) rest byte in
    let all = append_assoc (taken ++ take i bytes) (b ∷ []) rest ∙ whole_again taken bytes more i c.loop-byte-test.true in (
      now.0 ++ cut.0,
      Appends-trans _ _ _ now.0 cut.0 now.1 cut.1,
      subst (λ xs. IsStopped g.A.Answers.refuses (lines xs) ((written ++ (now.0 ++ cut.0)) ++ out) fault) all
          (subst (λ xs. IsStopped g.A.Answers.refuses (lines (((taken ++ take i bytes) ++ b ∷ []) ++ rest)) (xs ++ out) fault) (append_assoc written now.0 cut.0) cut.2),
    )

pub loop-byte-preserved : goal.loop-byte-preserved
loop-byte-preserved g c = record {
  taken = λ taken written at.
      let i = c.loop-byte.byte-index in
      let bytes = c.args.bytes.now in
      let now = c.loop-byte.invariant.taken taken written at in
      let byte = c.in_default.ensures.taken (taken ++ take i bytes) (written ++ now.0) now.2 in
      let wrote = c.in_default-write_gathered.ensures.written _ (written ++ now.0) byte in
      let run = c.write_gathered.new.self in
      let one = subst (λ xs. HasTaken g.A.Answers.stands run xs ((written ++ now.0) ++ wrote.0)) (one_more taken bytes i c.loop-byte-test.true) wrote.2 in (
        now.0 ++ wrote.0,
        Appends-trans _ _ _ now.0 wrote.0 now.1 wrote.1,
        subst (λ xs. HasTaken g.A.Answers.stands run (taken ++ take (i + 1) bytes) xs) (append_assoc written now.0 wrote.0) one,
      );
  number = omega (arith, c.loop-byte.invariant.number, c.in_default.ensures.number, c.in_default-write_gathered.ensures.same);
}

pub returns-clause-taken : goal.returns-clause-taken
returns-clause-taken g c = λ taken written at.
    let bytes = c.args.bytes.now in
    let now = c.loop-byte.invariant.taken taken written at in
    let all = take_all c.loop-byte.byte-index bytes c.loop-byte-test.false in
    (now.0, now.1, subst (λ xs. HasTaken g.A.Answers.stands c.loop-byte.self (taken ++ xs) (written ++ now.0)) all now.2)
