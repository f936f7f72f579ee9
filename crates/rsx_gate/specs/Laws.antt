-- Laws of the gate machine.
use Rattle.std.specs.Prelude.{◌≡◌, ◌≢◌, ℕ, true, List, ◌∷◌}
use mathlib.Core.Option.{some}
use Rattle.rsx_gate.specs.declared.view.Step.TheVariants.{Mark, Leave}
use Rattle.rsx_gate.specs.Machine.{Entry, entry, IsRun, own, newest, IsEnter, holds_pass}

-- in a legal history two lists of steps that have the pass are one list of one seat
abbrev pub AtMostOnePass : Type 0
AtMostOnePass = (log : List Entry) (o k o' k' : ℕ) → IsRun log → holds_pass (own o k log) ≡ true → holds_pass (own o' k' log) ≡ true → (o ≡ o') × (k ≡ k')

-- a leave that is Gone, which found 1, stands only where the newest of the enters and marks is a mark of the same holder
abbrev pub GoneHasNoNote : Type 0
GoneHasNoNote = (log : List Entry) (o k : ℕ) → IsRun (entry o k (Leave 1) ∷ log) → (n : ℕ) × (newest log ≡ some (entry o k (Mark n)))

-- one that is Missed, which found another word, found 2, and the newest of the enters and marks is an enter
abbrev pub MissedHasNote : Type 0
MissedHasNote = (log : List Entry) (o k n : ℕ) → n ≢ 1 → IsRun (entry o k (Leave n) ∷ log) → (n ≡ 2) × ((e : Entry) × (newest log ≡ some e) × IsEnter e.step)
