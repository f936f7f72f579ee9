-- flatMap: a lane for each item, of the items that it is expanded to.
use Rattle.std.specs.Prelude.{◌≡◌, ℕ, List, [], ◌∷◌, map, Option, Result, Ok, Err}
use Rattle.rsx_types.specs.declared.signal.Ending.{Ending}
use Rattle.rsx_types.specs.declared.stage.Stage.{Stage}
use Rattle.rsx_types.specs.Meaning.{Meaning}
use Rattle.rsx_types.specs.Plain.{chained, listed}
use Rattle.rsx_types.specs.Stream.{Stream, ended_by, item_then, cut_by}
use Rattle.rsx_values.specs.Lanes.{merged_lanes, merged_lanes_delay}

-- the list of an item, and then those of the items behind it; a fault cuts there
abbrev pub list_then : {T : Type 0} → Result (List T) ℕ → Stream (List T) → Stream (List T)
list_then (Ok ys) v = item_then ys v
list_then (Err c) v = cut_by c

-- the lists that the items are expanded to, up to the first fault
abbrev pub expanded_items : {T : Type 0} → (T → Result (List T) ℕ) → List T → Ending → Stream (List T)
expanded_items f [] e = ended_by e
expanded_items f (x ∷ xs) e = list_then (f x) (expanded_items f xs e)

-- the lane of a list: its items and the completion, through the chain
abbrev pub flat_lane : {T : Type 0} → Meaning T → List (Stage T) → List T → Stream T
flat_lane m gs ys = chained m gs (listed ys)

-- the merge of the lanes and Main; none where the choices don't fit
abbrev pub flat_map : {T : Type 0} → Meaning T → ℕ → List (Stage T) → List ℕ → Stream T → Option (Stream T)
flat_map m f gs cs v =
    let lists = expanded_items (m.expanded f) v.items v.ending in
    merged_lanes cs (map (flat_lane m gs) lists.items) lists.ending

-- the same where failures are delayed; a fault of an expansion is Main's failure, and is taken as any other
abbrev pub flat_map_delay : {T : Type 0} → Meaning T → ℕ → List (Stage T) → List ℕ → Stream T → Option (Stream T)
flat_map_delay m f gs cs v =
    let lists = expanded_items (m.expanded f) v.items v.ending in
    merged_lanes_delay cs (map (flat_lane m gs) lists.items) lists.ending

-- these are the lists, each with the completion behind it, and this is the ending behind them
abbrev pub IsExpanded : {T : Type 0} → Stream (List T) → List (Stream T) → Ending → Type 0
IsExpanded lists values e = (values ≡ map listed lists.items) × (e ≡ lists.ending)
