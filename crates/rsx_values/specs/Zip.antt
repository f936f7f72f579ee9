-- Rows of the items of several stream values.
use Rattle.std.specs.Prelude.{ℕ, zero, suc, Bool, true, false, ◌&&◌, nat_eq, if◌then◌else◌, min, List, [], ◌∷◌, length, Option, Some, None, option_map, slice_get}
use Rattle.rsx_types.specs.declared.signal.Ending.{Ending}
use Rattle.rsx_types.specs.declared.signal.Ending.TheVariants.{Open, Done, Failed}
use Rattle.rsx_types.specs.Stream.{Stream}

-- the items of each value
abbrev pub items_of : {T : Type 0} → List (Stream T) → List (List T)
items_of [] = []
items_of (v ∷ vs) = v.items ∷ items_of vs

-- the length of the shortest list; 0 where there is no list
abbrev pub shortest : {A : Type 0} → List (List A) → ℕ
shortest [] = 0
shortest (xs ∷ []) = length xs
shortest (xs ∷ ys ∷ ls) = min (length xs) (shortest (ys ∷ ls))

-- the first item of each list, of those that have one
abbrev pub heads : {A : Type 0} → List (List A) → List A
heads [] = []
heads ([] ∷ ls) = heads ls
heads ((x ∷ xs) ∷ ls) = x ∷ heads ls

-- each list without its first item
abbrev pub tails : {A : Type 0} → List (List A) → List (List A)
tails [] = []
tails ([] ∷ ls) = [] ∷ tails ls
tails ((x ∷ xs) ∷ ls) = xs ∷ tails ls

-- so many rows: the first items of all lists, then the second ones, and so on
abbrev pub rows : {A : Type 0} → (List A → A) → ℕ → List (List A) → List A
rows row zero ls = []
rows row (suc n) ls = row (heads ls) ∷ rows row n (tails ls)

abbrev pub has_ended : Ending → Bool
has_ended Open = false
has_ended Done = true
has_ended (Failed c) = true

-- whether a value has ended and just n items
abbrev pub ends_after : {T : Type 0} → ℕ → Stream T → Bool
ends_after n v = nat_eq (length v.items) n && has_ended v.ending

-- the ending of the first of the values that has ended after just n items; Open where none has
abbrev pub first_ending : {T : Type 0} → ℕ → List (Stream T) → Ending
first_ending n [] = Open
first_ending n (v ∷ vs) = if ends_after n v then v.ending else first_ending n vs

-- the ending of this value, where it has ended after just n items
abbrev pub ending_after : {T : Type 0} → ℕ → Option (Stream T) → Option Ending
ending_after n None = None
ending_after n (Some v) = if ends_after n v then Some v.ending else None

-- the ending of the recorded value; where none is recorded, that of the first that has ended with all its items used
abbrev pub zip_ending : {T : Type 0} → ℕ → Option ℕ → List (Stream T) → Option Ending
zip_ending n None vs = Some (first_ending n vs)
zip_ending n (Some i) vs = ending_after n (slice_get vs i)

abbrev pub zip_rows : {T : Type 0} → (List T → T) → ℕ → List (Stream T) → Ending → Stream T
zip_rows row n vs e = record { items = rows row n (items_of vs); ending = e }

-- rows up to the shortest value, and the ending; nothing where the recorded value hasn't ended with all its items used
abbrev pub zip : {T : Type 0} → (List T → T) → Option ℕ → List (Stream T) → Option (Stream T)
zip row recorded vs =
    let n = shortest (items_of vs) in
    option_map (zip_rows row n vs) (zip_ending n recorded vs)
