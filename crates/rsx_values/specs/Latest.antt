-- Rows of the latest items of several inputs.
use Rattle.std.specs.Prelude.{ℕ, ◌-◌, Bool, true, false, nat_eq, nat_le, ◌||◌, if◌then◌else◌, List, [], ◌∷◌, length, slice_get, slice_set, Option, Some, None, option_map}
use Rattle.rsx_types.specs.declared.signal.Ending.TheVariants.{Open, Done, Failed}
use Rattle.rsx_types.specs.declared.signal.Signal.TheVariants.{Next, Complete, Error}
use Rattle.rsx_types.specs.Stream.{Stream, ended_by, item_then}
use Rattle.rsx_values.specs.Pick.{InputLeft, Taken, numbered, pick}

-- the latest items, once each input has had one
abbrev pub all_latest : {A : Type 0} → List (Option A) → Option (List A)
all_latest [] = Some []
all_latest (None ∷ os) = None
all_latest (Some x ∷ os) = option_map (λ xs. x ∷ xs) (all_latest os)

-- a row of these items, if there is one, and then what comes
abbrev pub row_first : {T : Type 0} → (List T → T) → Option (List T) → Stream T → Stream T
row_first row None v = v
row_first row (Some xs) v = item_then (row xs) v

-- whether an input had no item
abbrev pub is_itemless : {A : Type 0} → Option (Option A) → Bool
is_itemless None = true
is_itemless (Some None) = true
is_itemless (Some (Some x)) = false

-- whether the completion of input n is the last of `left` inputs, or comes without any item
abbrev pub stops : {A : Type 0} → List (Option A) → ℕ → ℕ → Bool
stops latest n left = is_itemless (slice_get latest n) || nat_le left 1

-- the rows over the taken signals: each input's latest item is kept, and a row stands at each item once every input has had one. They
-- stop where all inputs are done, where one is without any item, and at a failure, whatever was taken behind that.
abbrev pub walk : {T : Type 0} → (List T → T) → List (Option T) → ℕ → List (Taken T) → Stream T
walk row latest left [] = ended_by (if nat_eq left 0 then Done else Open)
walk row latest left ((n, Next x) ∷ ts) =
    let now = slice_set latest n (Some x) in
    row_first row (all_latest now) (walk row now left ts)
walk row latest left ((n, Complete) ∷ ts) = if stops latest n left then ended_by Done else walk row latest (left - 1) ts
walk row latest left ((n, Error c) ∷ ts) = ended_by (Failed c)

-- the rows of numbered inputs, of which these were the latest items; nothing where the choices don't fit
abbrev pub combine : {T : Type 0} → (List T → T) → List (Option T) → List ℕ → List (InputLeft T) → Option (Stream T)
combine row latest cs is = option_map (walk row latest (length is)) (pick cs is)

-- no input has had an item
abbrev pub none_yet : {T : Type 0} → List (Stream T) → List (Option T)
none_yet [] = []
none_yet (v ∷ vs) = None ∷ none_yet vs

-- the rows of the latest items of values, numbered from 0 on
abbrev pub combine_latest : {T : Type 0} → (List T → T) → List ℕ → List (Stream T) → Option (Stream T)
combine_latest row cs vs = combine row (none_yet vs) cs (numbered 0 vs)
