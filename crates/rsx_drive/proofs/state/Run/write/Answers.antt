use Rattle.std.specs.String.{string_bytes}
use Rattle.rsx_drive.proofs.Bytes.{writing_failed}
use Rattle.rsx_drive.proofs.state.Run.write.Goals as goal

pub returns-in-Err-clause-stopped : goal.returns-in-Err-clause-stopped
returns-in-Err-clause-stopped g c = λ taken written more at.
    let run = c.args.self.now in
    writing_failed g.A.Answers.stands g.A.Answers.refuses run.answers run.line.items run.number (string_bytes run.out) taken written (string_bytes c.write_out.new.out) more _ _ c.in-Err.fault
    (λ before text others stands. g.met.A.Answers.wanting run.answers before text others stands) at c.in-Err.ensures.none_left c.in-Err.ensures.fault c.in-Err.ensures.begun
