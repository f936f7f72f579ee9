-- groupBy: a lane for each key, of the items that have it.
use Rattle.std.specs.Prelude.{◌≡◌, ℕ, Bool, ◌||◌, nat_eq, nat_lt, if◌then◌else◌, List, [], ◌∷◌, ◌++◌, length, map, Option, Result, Ok, Err}
use Rattle.std.specs.Set.{is_member}
use Rattle.rsx_types.specs.declared.signal.Ending.{Ending}
use Rattle.rsx_types.specs.declared.signal.Ending.TheVariants.{Open, Done, Failed}
use Rattle.rsx_types.specs.declared.stage.Stage.{Stage}
use Rattle.rsx_types.specs.Meaning.{Meaning}
use Rattle.rsx_types.specs.Plain.{chained}
use Rattle.rsx_types.specs.Stream.{Stream, ended_by, item_then, cut_by}
use Rattle.rsx_values.specs.declared.limits.TheConstants.{MOST_KEYS, TOO_MANY_KEYS}
use Rattle.rsx_values.specs.Lanes.{merged_lanes}

-- the keys that were seen, in the order in which each came first, after one more item's key
abbrev pub see : List ℕ → ℕ → List ℕ
see seen k = if is_member nat_eq seen k then seen else seen ++ k ∷ []

-- whether a key was seen, or may be one more
abbrev pub has_place : List ℕ → ℕ → Bool
has_place seen k = is_member nat_eq seen k || nat_lt (length seen) MOST_KEYS

-- the key of an item, where these were seen; a key too many is a fault
abbrev pub placed : List ℕ → Result ℕ ℕ → Result ℕ ℕ
placed seen (Ok k) = if has_place seen k then Ok k else Err TOO_MANY_KEYS
placed seen (Err c) = Err c

-- an item with its key, and then what comes where its key was seen too; a fault cuts there
abbrev pub keyed_then : {T : Type 0} → T → List ℕ → Result ℕ ℕ → (List ℕ → Stream (ℕ × T)) → Stream (ℕ × T)
keyed_then x seen (Ok k) after = item_then (k, x) (after (see seen k))
keyed_then x seen (Err c) after = cut_by c

-- the items with their keys, where these keys were seen, up to the first fault
abbrev pub keyed_items : {T : Type 0} → (T → Result ℕ ℕ) → List ℕ → List T → Ending → Stream (ℕ × T)
keyed_items key seen [] e = ended_by e
keyed_items key seen (x ∷ xs) e = keyed_then x seen (placed seen (key x)) (λ known. keyed_items key known xs e)

-- the keys that were seen, after one more item's key; a fault leaves them
abbrev pub keys_after : List ℕ → Result ℕ ℕ → List ℕ
keys_after seen (Ok k) = see seen k
keys_after seen (Err c) = seen

-- the keys in the order in which each came first, behind those that were seen before
abbrev pub first_seen : {T : Type 0} → List ℕ → List (ℕ × T) → List ℕ
first_seen seen [] = seen
first_seen seen (p ∷ ps) = first_seen (see seen p.0) ps

-- the items of one key
abbrev pub items_of_key : {T : Type 0} → ℕ → List (ℕ × T) → List T
items_of_key k [] = []
items_of_key k (p ∷ ps) = if nat_eq p.0 k then p.1 ∷ items_of_key k ps else items_of_key k ps

-- lanes are done where the input is; a failure is Main's
abbrev pub lane_ending : Ending → Ending
lane_ending Open = Open
lane_ending Done = Done
lane_ending (Failed c) = Open

-- what comes in at the lane of one key
abbrev pub of_key : {T : Type 0} → ℕ → Stream (ℕ × T) → Stream T
of_key k v = record { items = items_of_key k v.items; ending = lane_ending v.ending }

-- each item with the tag of its key
abbrev pub tagged_items : {T : Type 0} → Meaning T → ℕ → Stream T → Stream T
tagged_items m k v = record { items = map (m.tagged k) v.items; ending = v.ending }

-- the lane of a key: its items through the chain, each with its tag
abbrev pub group_lane : {T : Type 0} → Meaning T → List (Stage T) → Stream (ℕ × T) → ℕ → Stream T
group_lane m gs v k = tagged_items m k (chained m gs (of_key k v))

-- the lanes, in the order in which their keys came first
abbrev pub group_lanes : {T : Type 0} → Meaning T → List (Stage T) → Stream (ℕ × T) → List (Stream T)
group_lanes m gs v = map (group_lane m gs v) (first_seen [] v.items)

-- the merge of the lanes and Main; none where the choices don't fit
abbrev pub group_by : {T : Type 0} → Meaning T → ℕ → List (Stage T) → List ℕ → Stream T → Option (Stream T)
group_by m f gs cs v =
    let keyed = keyed_items (m.keyed f) [] v.items v.ending in
    merged_lanes cs (group_lanes m gs keyed) keyed.ending

-- these are the items with their keys, these are the keys, and this is the ending behind them
abbrev pub IsKeyed : {T : Type 0} → Stream (ℕ × T) → List ℕ → List (ℕ × T) → Ending → Type 0
IsKeyed v keys items e = (items ≡ v.items) × (keys ≡ first_seen [] v.items) × (e ≡ v.ending)
