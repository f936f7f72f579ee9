-- The merge that delays failures. A failure that is taken ends its input alone, so choices may follow it, and what is left is taken of
-- every input; the first failure that was taken is the ending once all inputs have ended.
use Rattle.std.specs.Prelude.{◌≡◌, ⊤, ℕ, ◌-◌, Bool, true, false, nat_eq, if◌then◌else◌, List, [], ◌∷◌, length, Option, Some, None, option_map}
use Rattle.rsx_types.specs.declared.signal.Cause.{Cause}
use Rattle.rsx_types.specs.declared.signal.Ending.{Ending}
use Rattle.rsx_types.specs.declared.signal.Ending.TheVariants.{Open, Done, Failed}
use Rattle.rsx_types.specs.declared.signal.Signal.{Signal}
use Rattle.rsx_types.specs.declared.signal.Signal.TheVariants.{Next, Complete, Error}
use Rattle.rsx_types.specs.Stream.{Stream, item_then}
use Rattle.rsx_values.specs.Pick.{InputLeft, Taken, next_of, numbered}

-- ---- the pick of all signals

-- an input's signals, and then the others
abbrev pub all_of : {T : Type 0} → ℕ → List (Signal T) → List (Taken T) → List (Taken T)
all_of n [] rest = rest
all_of n (s ∷ ss) rest = (n, s) ∷ all_of n ss rest

-- input by input, whatever fails
abbrev pub rest_of_all : {T : Type 0} → List (InputLeft T) → List (Taken T)
rest_of_all [] = []
rest_of_all (i ∷ is) = all_of i.0 i.1 (rest_of_all is)

-- one choice, and what is taken after it
abbrev pub goes_on : {T : Type 0} → ℕ → Option (Signal T × List (InputLeft T)) → (List (InputLeft T) → Option (List (Taken T))) → Option (List (Taken T))
goes_on c None rest = None
goes_on c (Some (s, is)) rest = option_map (λ ts. (c, s) ∷ ts) (rest is)

-- the pick in which choices may follow a failure; none where a choice finds no signal
abbrev pub pick_all : {T : Type 0} → List ℕ → List (InputLeft T) → Option (List (Taken T))
pick_all [] is = Some (rest_of_all is)
pick_all (c ∷ cs) is = goes_on c (next_of c is) (λ js. pick_all cs js)

-- ---- the value

-- the first failure stays
abbrev pub first_cause : Option Cause → Cause → Option Cause
first_cause None c = Some c
first_cause (Some d) c = Some d

-- how it ends once all inputs have ended, where this is the first failure
abbrev pub ending_of : Option Cause → Ending
ending_of None = Done
ending_of (Some c) = Failed c

-- how it ends where so many inputs have not ended and this failure is the first
abbrev pub ending_behind : ℕ → Option Cause → Ending
ending_behind left kept = if nat_eq left 0 then ending_of kept else Open

-- the items of a pick
abbrev pub items_taken : {T : Type 0} → List (Taken T) → List T
items_taken [] = []
items_taken ((n, Next x) ∷ ts) = x ∷ items_taken ts
items_taken ((n, Complete) ∷ ts) = items_taken ts
items_taken ((n, Error c) ∷ ts) = items_taken ts

-- the ending of a pick of inputs of which so many have not ended, where this failure was taken first so far: open unless the
-- endings of all were taken
abbrev pub delayed_ending : {T : Type 0} → ℕ → Option Cause → List (Taken T) → Ending
delayed_ending left kept [] = ending_behind left kept
delayed_ending left kept ((n, Next x) ∷ ts) = delayed_ending left kept ts
delayed_ending left kept ((n, Complete) ∷ ts) = delayed_ending (left - 1) kept ts
delayed_ending left kept ((n, Error c) ∷ ts) = delayed_ending (left - 1) (first_cause kept c) ts

abbrev pub merged_delayed : {T : Type 0} → ℕ → Option Cause → List (Taken T) → Stream T
merged_delayed left kept ts = record { items = items_taken ts; ending = delayed_ending left kept ts }

-- the merge of numbered inputs, where this failure was taken first so far; none where the choices don't fit
abbrev pub merge_delayed_inputs : {T : Type 0} → Option Cause → List ℕ → List (InputLeft T) → Option (Stream T)
merge_delayed_inputs kept cs is = option_map (merged_delayed (length is) kept) (pick_all cs is)

-- the merge of values, numbered from 0 on
abbrev pub merge_delay : {T : Type 0} → List ℕ → List (Stream T) → Option (Stream T)
merge_delay cs vs = merge_delayed_inputs None cs (numbered 0 vs)

-- ---- one choice

-- a signal taken first: an item stands in front, and an ending is nothing by itself, but a failure is kept where it is the first
abbrev pub taken_first : {T : Type 0} → Signal T → Option Cause → List ℕ → List (InputLeft T) → Option (Stream T)
taken_first (Next x) kept cs is = option_map (item_then x) (merge_delayed_inputs kept cs is)
taken_first Complete kept cs is = merge_delayed_inputs kept cs is
taken_first (Error c) kept cs is = merge_delayed_inputs (first_cause kept c) cs is

-- ---- no failure

-- whether a value fails
abbrev pub fails : Ending → Bool
fails Open = false
fails Done = false
fails (Failed c) = true

-- none of these values fails
abbrev pub NoneFails : {T : Type 0} → List (Stream T) → Type 0
NoneFails [] = ⊤
NoneFails (v ∷ vs) = (fails v.ending ≡ false) × NoneFails vs
