-- What the calls of the slow pick answer, by the places of the inputs.
use Rattle.std.specs.Prelude.{◌≡◌, ℕ, Bool, true, false, List, [], ◌∷◌, Option, Some, None, slice_set}
use Rattle.std.specs.List.{remove}
use Rattle.rsx_types.specs.declared.signal.Signal.{Signal}
use Rattle.rsx_types.specs.declared.signal.Signal.TheVariants.{Next, Complete, Error}
use Rattle.rsx_values.specs.Pick.{InputLeft, next_of}

-- the choice took this signal, and left these inputs
abbrev pub TakesNext : {T : Type 0} → ℕ → List (InputLeft T) → Option (Signal T) → List (InputLeft T) → Type 0
TakesNext c old None new = next_of c old ≡ None
TakesNext c old (Some s) new = next_of c old ≡ Some (s, new)

-- the inputs after the one at place k, of number n, gave the signal and has these left
abbrev pub left_at : {T : Type 0} → List (InputLeft T) → ℕ → ℕ → Signal T → List (Signal T) → List (InputLeft T)
left_at is k n (Next x) ss = slice_set is k (n, ss)
left_at is k n Complete ss = remove is k
left_at is k n (Error c) ss = remove is k

-- the input i at place k gave this signal, and left these inputs
abbrev pub TakesAt : {T : Type 0} → List (InputLeft T) → ℕ → InputLeft T → Option (Signal T) → List (InputLeft T) → Type 0
TakesAt is k i None new = i.1 ≡ []
TakesAt {T} is k i (Some s) new = (ss : List (Signal T)) × (i.1 ≡ s ∷ ss) × (new ≡ left_at is k i.0 s ss)

-- what is taken after an input, where it did not fail
abbrev pub unless_failed : {A : Type 0} → Bool → List A → List A
unless_failed true rest = []
unless_failed false rest = rest
