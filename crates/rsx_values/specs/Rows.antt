-- The items of one row.
use Rattle.std.specs.Prelude.{ℕ, List, [], ◌∷◌, Option, Some, None, slice_get}

-- an item in front of others, if there is one
abbrev pub some_first : {A : Type 0} → Option A → List A → List A
some_first None xs = xs
some_first (Some x) xs = x ∷ xs

-- the item at place k of each list that has one there
abbrev pub at_each : {A : Type 0} → ℕ → List (List A) → List A
at_each k [] = []
at_each k (xs ∷ ls) = some_first (slice_get xs k) (at_each k ls)
