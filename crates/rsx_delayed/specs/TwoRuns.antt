-- Choices kept as at most two runs, of which the second is of one choice.
use Rattle.std.specs.Prelude.{⊤, ℕ, zero, suc, ◌+◌, ◌-◌, ◌^◌, ◌≤◌, ◌==◌, Bool, true, false, nat_lt, if◌then◌else◌, List, [], ◌∷◌}
use Rattle.rsx_values.specs.declared.record.Run.{Run}

abbrev pub one : ℕ → Run
one i = record { input = i; count = 1 }

-- whether a choice of this input fits behind them: the first run takes no more than its count can hold, and behind the second comes none
abbrev pub fits : List Run → ℕ → Bool
fits [] i = true
fits (r ∷ []) i = if r.input == i then nat_lt r.count (2 ^ 64 - 1) else true
fits (r ∷ q ∷ rs) i = false

-- with a choice of this input behind them, where it fits
abbrev pub with_choice : List Run → ℕ → List Run
with_choice [] i = one i ∷ []
with_choice (r ∷ []) i = if r.input == i then record { input = r.input; count = r.count + 1 } ∷ [] else r ∷ one i ∷ []
with_choice (r ∷ q ∷ rs) i = r ∷ q ∷ rs

-- the run without its last choice, if any other is left
abbrev pub lowered : Run → List Run
lowered r = if nat_lt 1 r.count then record { input = r.input; count = r.count - 1 } ∷ [] else []

-- without the last choice
abbrev pub without_choice : List Run → List Run
without_choice [] = []
without_choice (r ∷ []) = lowered r
without_choice (r ∷ q ∷ rs) = r ∷ without_choice (q ∷ rs)

-- no run is empty
abbrev pub AreFilled : List Run → Type 0
AreFilled [] = ⊤
AreFilled (r ∷ rs) = (1 ≤ r.count) × AreFilled rs

-- one choice so many times
abbrev pub repeated : ℕ → ℕ → List Run
repeated i zero = []
repeated i (suc n) = record { input = i; count = suc n } ∷ []
