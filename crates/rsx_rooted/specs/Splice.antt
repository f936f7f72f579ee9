-- Lists in which one element stands for several others.
use Rattle.std.specs.Prelude.{◌≡◌, ℕ, zero, suc, ◌+◌, ◌<◌, List, [], ◌∷◌, ◌++◌, slice_get, take, drop}

-- a list in the place of the element with this number
abbrev pub splice : {A : Type 0} → ℕ → List A → List A → List A
splice c low [] = low
splice zero low (u ∷ us) = low ++ us
splice (suc c) low (u ∷ us) = u ∷ splice c low us

-- an element in the place of so many from this number on
abbrev pub folded : {A : Type 0} → ℕ → ℕ → A → List A → List A
folded zero many x ws = x ∷ drop many ws
folded (suc c) many x [] = []
folded (suc c) many x (w ∷ ws) = w ∷ folded c many x ws

-- these elements
abbrev pub lifted : {A : Type 0} → ℕ → ℕ → List A → List A
lifted c many ws = take many (drop c ws)

-- the first list has the other, of `many` elements, in the place of the element `c` of the second
pub record IsSpliced {A : Type 0} (c many : ℕ) (whole upper lower : List A) : Type 0 where
  pub before : (i : ℕ) → i < c → slice_get whole i ≡ slice_get upper i
  pub inside : (i : ℕ) → i < many → slice_get whole (c + i) ≡ slice_get lower i
  pub behind : (i : ℕ) → slice_get whole (c + many + i) ≡ slice_get upper (c + 1 + i)
