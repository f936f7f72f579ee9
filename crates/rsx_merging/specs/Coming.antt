-- The lanes of the items that still come in.
use Rattle.std.specs.Prelude.{ℕ, Bool, true, false, List, [], ◌++◌, map, Result, Ok, Err}
use Rattle.rsx_sources.specs.Prelude.{Stage, Meaning, Stream}
use Rattle.rsx_values.specs.Prelude.{InputLeft, numbered, expanded_items, flat_lane, main_input}

-- a list through the chain; a fault stays
abbrev pub through_chain : {T : Type 0} → Meaning T → List (Stage T) → Result (List T) ℕ → Result (Stream T) ℕ
through_chain m gs (Ok ys) = Ok (flat_lane m gs ys)
through_chain m gs (Err c) = Err c

-- the lane of an item, or the fault of its expansion
abbrev pub lane_answer : {T : Type 0} → Meaning T → ℕ → List (Stage T) → T → Result (Stream T) ℕ
lane_answer m f gs x = through_chain m gs (m.expanded f x)

-- the lanes of these lists, numbered from n on, and Main behind them
abbrev pub lanes_of : {T : Type 0} → Meaning T → List (Stage T) → ℕ → Stream (List T) → List (InputLeft T)
lanes_of m gs n lists = numbered n (map (flat_lane m gs) lists.items) ++ main_input lists.ending

-- the lanes of what still comes in, where n items came in before, and Main behind them
abbrev pub lanes_to_come : {T : Type 0} → Meaning T → ℕ → List (Stage T) → ℕ → Stream T → List (InputLeft T)
lanes_to_come m f gs n v = lanes_of m gs n (expanded_items (m.expanded f) v.items v.ending)

-- nothing where the input has ended
abbrev pub unless_closed : {A : Type 0} → Bool → List A → List A
unless_closed true is = []
unless_closed false is = is

-- the lanes that are live, and then those of what still comes in
abbrev pub lanes_left : {T : Type 0} → Meaning T → ℕ → List (Stage T) → List (InputLeft T) → ℕ → Bool → Stream T → List (InputLeft T)
lanes_left m f gs lanes n closed v = lanes ++ unless_closed closed (lanes_to_come m f gs n v)
