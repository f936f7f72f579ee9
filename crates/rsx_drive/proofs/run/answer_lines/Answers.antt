use Rattle.std.proofs.Common.{[], ◌++◌, refl, subst, sym}
use Rattle.std.specs.String.{string_bytes}
use Rattle.rsx_script.specs.Fault.{IsRunFault}
use Rattle.rsx_tck.specs.Texts.{lines}
use Rattle.rsx_drive.specs.Answered.{IsStopped, Writes}
use Rattle.rsx_drive.proofs.Bytes.{at_start}
use Rattle.rsx_drive.proofs.Ending.{last_failed, stop_early, stop_failed}
use Rattle.rsx_drive.proofs.Reading.{if_some_to, writes_more}
use Rattle.rsx_drive.proofs.run.answer_lines.Goals as goal

pub returns-in-Ok-write_out-clause-ended : goal.returns-in-Ok-write_out-clause-ended
returns-in-Ok-write_out-clause-ended g c =
    let start = at_start g.A.Answers.stands c.args.answers c.new.result.items 1 (string_bytes c.new-2.result) c.new.ensures.items c.new-2.ensures.bytes refl c.requires in
    let out = string_bytes c.answer_all.new.self.out in
    if_some_to _ (λ input. Writes _ _ (λ text. g.A.Answers.ends (lines input) (text ++ out))) (λ input. Writes _ _ (λ text. g.A.Answers.ends (lines input) text))
    (λ input w. writes_more _ _ _ out (λ text. g.A.Answers.ends (lines input) text) c.in-Ok-write_out.ensures.written w)
    (c.in-Ok.ensures.ended [] [] start)

pub returns-in-Ok-clause-stopped : goal.returns-in-Ok-clause-stopped
returns-in-Ok-clause-stopped g c =
    let start = at_start g.A.Answers.stands c.args.answers c.new.result.items 1 (string_bytes c.new-2.result) c.new.ensures.items c.new-2.ensures.bytes refl c.requires in
    last_failed g.A.Answers.refuses g.A.Answers.ends _ _ _ _ (string_bytes c.answer_all.new.self.out) c.in-Err-write_out.fault (λ all text e. g.met.A.Answers.wanting_last all text e)
    c.in-Err-write_out.ensures.fault c.in-Err-write_out.ensures.begun (c.in-Ok.ensures.ended [] [] start)

pub returns-in-Err-Io-clause-stopped : goal.returns-in-Err-Io-clause-stopped
returns-in-Err-Io-clause-stopped g c =
    let start = at_start g.A.Answers.stands c.args.answers c.new.result.items 1 (string_bytes c.new-2.result) c.new.ensures.items c.new-2.ensures.bytes refl c.requires in
    stop_early g.A.Answers.refuses _ _ _ (string_bytes c.answer_all.new.self.out) (rw c.in-Err-Io.field-0-is at (c.in-Err-Io.ensures.stopped [] [] start))

pub returns-in-Ok-write_out-2 : goal.returns-in-Ok-write_out-2
returns-in-Ok-write_out-2 g c = record {
  ended = tt;
  stopped =
      let start = at_start g.A.Answers.stands c.args.answers c.new.result.items 1 (string_bytes c.new-2.result) c.new.ensures.items c.new-2.ensures.bytes refl c.requires in
      let out = string_bytes c.answer_all.new.self.out in
      let fault = c.in-Err.fault in
      if_some_to _ (λ input. Writes _ _ (λ text. IsStopped g.A.Answers.refuses (lines input) (text ++ out) fault)) (λ input. Writes _ _ (λ text. IsStopped g.A.Answers.refuses (lines input) text fault))
      (λ input w. writes_more _ _ _ out (λ text. IsStopped g.A.Answers.refuses (lines input) text fault) c.in-Ok-write_out-2.ensures.written w)
      (c.in-Err.ensures.stopped [] [] start);
  fault = c.in-Err.ensures.fault;
}

pub returns : goal.returns
returns g c = record {
  ended = tt;
  stopped =
      let start = at_start g.A.Answers.stands c.args.answers c.new.result.items 1 (string_bytes c.new-2.result) c.new.ensures.items c.new-2.ensures.bytes refl c.requires in
      stop_failed g.A.Answers.refuses _ _ _ _ (string_bytes c.answer_all.new.self.out) c.in-Err.fault c.in-Err-write_out-2.failed c.in-Err-write_out-2.ensures.fault
      c.in-Err-write_out-2.ensures.begun (c.in-Err.ensures.stopped [] [] start);
  fault = subst IsRunFault (sym c.in-Err-write_out-2.ensures.fault) tt;
}
