-- The merge: the items of a pick.
use Rattle.std.specs.Prelude.{ℕ, ◌-◌, nat_eq, if◌then◌else◌, List, [], ◌∷◌, length, Option, option_map}
use Rattle.rsx_types.specs.declared.signal.Ending.{Ending}
use Rattle.rsx_types.specs.declared.signal.Ending.TheVariants.{Open, Done, Failed}
use Rattle.rsx_types.specs.declared.signal.Signal.{Signal}
use Rattle.rsx_types.specs.declared.signal.Signal.TheVariants.{Next, Complete, Error}
use Rattle.rsx_types.specs.Stream.{Stream, ended_by, item_then}
use Rattle.rsx_values.specs.Pick.{InputLeft, Taken, numbered, pick}

-- the items of a pick
abbrev pub taken_items : {T : Type 0} → List (Taken T) → List T
taken_items [] = []
taken_items ((n, Next x) ∷ ts) = x ∷ taken_items ts
taken_items ((n, Complete) ∷ ts) = taken_items ts
taken_items ((n, Error c) ∷ ts) = []

-- the ending of a pick of inputs of which so many have not completed: done where all completions were taken, failed at the
-- failure taken, and else open
abbrev pub taken_ending : {T : Type 0} → ℕ → List (Taken T) → Ending
taken_ending left [] = if nat_eq left 0 then Done else Open
taken_ending left ((n, Next x) ∷ ts) = taken_ending left ts
taken_ending left ((n, Complete) ∷ ts) = taken_ending (left - 1) ts
taken_ending left ((n, Error c) ∷ ts) = Failed c

abbrev pub merged : {T : Type 0} → ℕ → List (Taken T) → Stream T
merged left ts = record { items = taken_items ts; ending = taken_ending left ts }

-- the merge of numbered inputs; none where the choices don't fit
abbrev pub merge_inputs : {T : Type 0} → List ℕ → List (InputLeft T) → Option (Stream T)
merge_inputs cs is = option_map (merged (length is)) (pick cs is)

-- the merge of values, numbered from 0 on
abbrev pub merge : {T : Type 0} → List ℕ → List (Stream T) → Option (Stream T)
merge cs vs = merge_inputs cs (numbered 0 vs)

-- ---- one choice

-- after a failure no input is left
abbrev pub unless_failure : {T : Type 0} → Signal T → List (InputLeft T) → List (InputLeft T)
unless_failure (Next x) is = is
unless_failure Complete is = is
unless_failure (Error c) is = []

-- a signal taken first: an item stands in front, a failure ends, and a completion is nothing by itself
abbrev pub signal_first : {T : Type 0} → Signal T → Option (Stream T) → Option (Stream T)
signal_first (Next x) o = option_map (item_then x) o
signal_first Complete o = o
signal_first (Error c) o = option_map (λ v. ended_by (Failed c)) o
