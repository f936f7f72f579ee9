-- Keys without repetition.
use Rattle.std.specs.Prelude.{◌≡◌, ℕ, List, [], ◌∷◌, ◌++◌, nat_eq, if◌then◌else◌, slice_get, Option, Some}
use Rattle.std.specs.Set.{is_member}

-- the keys after this one came: it stands last, unless it was there
abbrev pub noted : List ℕ → ℕ → List ℕ
noted ks k = if is_member nat_eq ks k then ks else ks ++ k ∷ []

-- of each key that is among these, and of no other, there is the place where it stands, and it stands nowhere else
pub record HasPlaces (ks : List ℕ) (place : ℕ → Option ℕ) : Type 0 where
  pub stands : (k i : ℕ) → place k ≡ Some i → slice_get ks i ≡ Some k
  pub found : (k i : ℕ) → slice_get ks i ≡ Some k → place k ≡ Some i
