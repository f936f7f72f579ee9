-- Choices kept as runs.
use Rattle.std.specs.Prelude.{◌≡◌, ⊤, ℕ, zero, suc, ◌+◌, ◌-◌, ◌^◌, ◌≤◌, ◌&&◌, ◌==◌, nat_lt, Bool, false, if◌then◌else◌, List, [], ◌∷◌, ◌++◌}
use Rattle.rsx_values.specs.declared.record.Run.{Run}

-- a choice made so many times
abbrev pub times : ℕ → ℕ → List ℕ
times zero i = []
times (suc n) i = i ∷ times n i

-- the choices of runs, one by one
abbrev pub written : List Run → List ℕ
written [] = []
written (r ∷ rs) = times r.count r.input ++ written rs

-- the run before these is of another input, unless its count is the greatest u64
abbrev pub IsApart : Run → List Run → Type 0
IsApart r [] = ⊤
IsApart r (q ∷ rs) = q.input ≡ r.input → 2 ^ 64 - 1 ≤ r.count

-- no run is empty, and two neighbours are of different inputs unless the count of the first is the greatest u64
abbrev pub IsRuns : List Run → Type 0
IsRuns [] = ⊤
IsRuns (r ∷ rs) = (1 ≤ r.count) × IsApart r rs × IsRuns rs

-- whether a choice of this input is one more of the last run
abbrev pub joins_last : List Run → ℕ → Bool
joins_last [] i = false
joins_last (r ∷ []) i = (r.input == i) && nat_lt r.count (2 ^ 64 - 1)
joins_last (r ∷ q ∷ rs) i = joins_last (q ∷ rs) i

-- how many choices of this input are more of the last run
abbrev pub room_of_last : List Run → ℕ → ℕ
room_of_last [] i = 0
room_of_last (r ∷ []) i = if r.input == i then 2 ^ 64 - 1 - r.count else 0
room_of_last (r ∷ q ∷ rs) i = room_of_last (q ∷ rs) i

-- the last run counts so many more
abbrev pub added_to_last : List Run → ℕ → List Run
added_to_last [] k = []
added_to_last (r ∷ []) k = record { input = r.input; count = r.count + k } ∷ []
added_to_last (r ∷ q ∷ rs) k = r ∷ added_to_last (q ∷ rs) k
