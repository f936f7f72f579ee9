-- Rows of the latest items with nothing chosen behind the point where they stop, as a node chooses: it has ended there.
use Rattle.std.specs.Prelude.{ℕ, ◌-◌, Bool, true, false, nat_eq, if◌then◌else◌, List, [], ◌∷◌, length, slice_set, Option, Some, None, option_map, option_and_then}
use Rattle.rsx_types.specs.declared.signal.Ending.TheVariants.{Open, Done, Failed}
use Rattle.rsx_types.specs.declared.signal.Signal.TheVariants.{Next, Complete, Error}
use Rattle.rsx_types.specs.Stream.{Stream, ended_by, item_then}
use Rattle.rsx_values.specs.Latest.{all_latest, combine_latest, none_yet, stops}
use Rattle.rsx_values.specs.Pick.{InputLeft, Taken, numbered, pick}

-- the choices behind the first
abbrev pub behind_first : {A : Type 0} → List A → List A
behind_first [] = []
behind_first (c ∷ cs) = cs

-- where the rows stop, nothing is chosen any more
abbrev pub unless_chosen : {T : Type 0} → List ℕ → Option (Stream T)
unless_chosen [] = Some (ended_by Done)
unless_chosen (c ∷ cs) = None

-- a row of these items, if there is one, and then what comes, if anything does
abbrev pub row_before : {T : Type 0} → (List T → T) → Option (List T) → Option (Stream T) → Option (Stream T)
row_before row None o = o
row_before row (Some xs) o = option_map (item_then (row xs)) o

-- the rows over the taken signals, of which the first were chosen so; nothing where one was chosen behind the stop
abbrev pub walk_until_stop : {T : Type 0} → (List T → T) → List (Option T) → ℕ → List ℕ → List (Taken T) → Option (Stream T)
walk_until_stop row latest left cs [] = Some (ended_by (if nat_eq left 0 then Done else Open))
walk_until_stop row latest left cs ((n, Next x) ∷ ts) =
    let now = slice_set latest n (Some x) in
    row_before row (all_latest now) (walk_until_stop row now left (behind_first cs) ts)
walk_until_stop row latest left cs ((n, Complete) ∷ ts) =
    if stops latest n left then unless_chosen (behind_first cs) else walk_until_stop row latest (left - 1) (behind_first cs) ts
walk_until_stop row latest left cs ((n, Error c) ∷ ts) = Some (ended_by (Failed c))

abbrev pub combine_until_stop : {T : Type 0} → (List T → T) → List (Option T) → List ℕ → List (InputLeft T) → Option (Stream T)
combine_until_stop row latest cs is = option_and_then (walk_until_stop row latest (length is) cs) (pick cs is)

abbrev pub latest_until_stop : {T : Type 0} → (List T → T) → List ℕ → List (Stream T) → Option (Stream T)
latest_until_stop row cs vs = combine_until_stop row (none_yet vs) cs (numbered 0 vs)

-- the rows with nothing chosen behind their stop, or whatever is chosen there
abbrev pub latest_by : {T : Type 0} → Bool → (List T → T) → List ℕ → List (Stream T) → Option (Stream T)
latest_by true = latest_until_stop
latest_by false = combine_latest
