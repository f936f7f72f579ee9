use Rattle.std.proofs.Common.{◌≤◌, ◌+◌, ℕ, List, ◌++◌, take}
use Rattle.rsx_drive.specs.Answered.{Writes}
use Rattle.rsx_drive.specs.Taken.{HasTaken}
use Rattle.rsx_drive.proofs.state.Run.take_in.Given as goal

-- the bytes so far were taken
abbrev pub invariant-loop-byte : goal.invariant-loop-byte
invariant-loop-byte g l = record {
  taken : (taken written : List ℕ) → HasTaken g.A.Answers.stands l.fn.self taken written →
      Writes (g.W.Write.contents l.fn.writer) (g.W.Write.contents l.writer) (λ text. HasTaken g.A.Answers.stands l.self (taken ++ take l.byte-index l.bytes) (written ++ text));
  number : l.self.number ≤ l.fn.self.number + l.byte-index;
}
