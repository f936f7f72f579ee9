use Rattle.std.proofs.Common.{◌≡◌, ◌≤◌, ◌+◌, ◌*◌, ℕ, List, ◌++◌, length}
use Rattle.std.specs.Io.KnownBytes.{Consumes}
use Rattle.rsx_drive.specs.Answered.{Writes}
use Rattle.rsx_drive.specs.Taken.{HasTaken}
use Rattle.rsx_drive.proofs.state.Run.answer_all.Given as goal

-- what the reader gave so far was taken
abbrev pub invariant-loop : goal.invariant-loop
invariant-loop g l = record {
  taken : (taken written : List ℕ) → HasTaken g.A.Answers.stands l.fn.self taken written →
      (got : List ℕ) × Consumes (g.R.Read.remaining l.fn.reader) (g.R.Read.remaining l.reader) got
      × Writes (g.W.Write.contents l.fn.writer) (g.W.Write.contents l.writer) (λ text. HasTaken g.A.Answers.stands l.self (taken ++ got) (written ++ text));
  number : l.self.number ≤ 1 + 4096 * l.counter;
  room : length l.bytes ≡ 4096;
}
