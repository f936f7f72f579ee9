-- The value of an expression, from scratch.
use Rattle.std.specs.Prelude.{ℕ, ◌+◌, Bool, true, false, List, [], ◌∷◌, map, drop, Option, Some, None, option_map, option_and_then, slice_get}
pub use Rattle.rsx_types.specs.Stream.{Stream}
pub use Rattle.rsx_types.specs.Meaning.{Meaning}
pub use Rattle.rsx_types.specs.Plain.{plain, listed, range_items}
use Rattle.rsx_values.specs.Prelude.{concat, merge, merge_delay, eager_of, flat_map, flat_map_delay, group_by, window, latest_by, zip, Note, Nothing, Picks, Ended}
use Rattle.rsx_model.specs.declared.expr.Expr.{Expr}
use Rattle.rsx_model.specs.declared.expr.Expr.TheOpen.{Expr-F, Items, Range, Hub, Plain, Concat, Merge, MergeDelay, Zip, Latest, Group, Window, Flat, FlatDelay, On, OnEager}
use Rattle.rsx_model.specs.declared.expr.Expr.TheFolds.{fold-Expr}
use Rattle.rsx_model.specs.Shape.{children, sum_of, leaf_here}

-- all that the value of an expression depends on: the functions, the hubs' values, and what was recorded; and whether a choice
-- behind the point where the rows of a combineLatest stop makes the value none
pub record Environment (T : Type 0) : Type 0 where
  pub meaning : Meaning T
  pub hubs : List (Stream T)
  pub joins : List ℕ
  pub notes : List Note
  pub until_stop : Bool

-- an environment of these; behind the stop of a combineLatest a choice has only to find a signal
abbrev pub environment : {T : Type 0} → Meaning T → List (Stream T) → List ℕ → List Note → Environment T
environment m hubs joins notes = record { meaning = m; hubs = hubs; joins = joins; notes = notes; until_stop = false }

-- the same with nothing chosen there, as nodes choose. Where an expression has a value in it, that is its value in the other too.
abbrev pub environment_until_stop : {T : Type 0} → Meaning T → List (Stream T) → List ℕ → List Note → Environment T
environment_until_stop m hubs joins notes = record { meaning = m; hubs = hubs; joins = joins; notes = notes; until_stop = true }

-- a subtree: its size, and its value where its root has the number `at` and its first hub leaf the number `leaf`
pub record Meant (T : Type 0) : Type 0 where
  pub nodes : ℕ
  pub leaves : ℕ
  pub value : ℕ → ℕ → Option (Stream T)

-- the values of subtrees that stand side by side
abbrev pub in_order : {T : Type 0} → List (Meant T) → ℕ → ℕ → Option (List (Stream T))
in_order [] at leaf = Some []
in_order (m ∷ ms) at leaf =
    option_and_then (λ s. option_map (λ ss. s ∷ ss) (in_order ms (at + m.nodes) (leaf + m.leaves))) (m.value at leaf)

-- the value of a node that records nothing: none where something was recorded
abbrev pub quiet : {A : Type 0} → Option Note → Option A → Option A
quiet None o = None
quiet (Some Nothing) o = o
quiet (Some (Picks cs)) o = None
quiet (Some (Ended i)) o = None

-- the value of a node that picks among its inputs or lanes, by the choices that were recorded: none where something else was recorded
abbrev pub chosen : {A : Type 0} → Option Note → (List ℕ → Option A) → Option A
chosen None f = None
chosen (Some Nothing) f = None
chosen (Some (Picks cs)) f = f cs
chosen (Some (Ended i)) f = None

-- the value of a zip, by the input whose ending was recorded, if one was: none where something else was recorded
abbrev pub ended_by_record : {A : Type 0} → Option Note → (Option ℕ → Option A) → Option A
ended_by_record None f = None
ended_by_record (Some Nothing) f = None
ended_by_record (Some (Picks cs)) f = None
ended_by_record (Some (Ended i)) f = f i

-- a hub's value without its first items: what stands behind a join
abbrev pub behind : {T : Type 0} → ℕ → Stream T → Stream T
behind join v = record { items = drop join v.items; ending = v.ending }

-- the value of a hub leaf: none where there is no such hub or no such join
abbrev pub joined_value : {T : Type 0} → Environment T → ℕ → ℕ → Option (Stream T)
joined_value w hub leaf = option_and_then (λ join. option_map (behind join) (slice_get w.hubs hub)) (slice_get w.joins leaf)

-- the value of one node where it stands, from what its children mean
abbrev pub node_value : {T : Type 0} → Environment T → Expr-F T (Meant T) → ℕ → ℕ → Option (Stream T)
node_value w (Items v) at leaf = quiet (slice_get w.notes at) (Some (listed v.items))
node_value w (Range a n) at leaf = quiet (slice_get w.notes at) (Some (listed (range_items w.meaning a n)))
node_value w (Hub h) at leaf = quiet (slice_get w.notes at) (joined_value w h.0 leaf)
node_value w (Plain g b) at leaf =
    quiet (slice_get w.notes at) (option_map (plain w.meaning g) (b.value.value (at + 1) leaf))
node_value w (Concat v) at leaf = quiet (slice_get w.notes at) (option_map concat (in_order v.items (at + 1) leaf))
node_value w (Merge p v) at leaf = chosen (slice_get w.notes at) (λ cs. option_and_then (merge cs) (in_order v.items (at + 1) leaf))
node_value w (MergeDelay p v) at leaf = chosen (slice_get w.notes at) (λ cs. option_and_then (merge_delay cs) (in_order v.items (at + 1) leaf))
node_value w (Zip p v) at leaf = ended_by_record (slice_get w.notes at) (λ i. option_and_then (zip w.meaning.row_of i) (in_order v.items (at + 1) leaf))
node_value w (Latest p v) at leaf = chosen (slice_get w.notes at) (λ cs. option_and_then (latest_by w.until_stop w.meaning.row_of cs) (in_order v.items (at + 1) leaf))
node_value w (Group f gs b) at leaf =
    chosen (slice_get w.notes at) (λ cs. option_and_then (group_by w.meaning f gs.items cs) (b.value.value (at + 1) leaf))
node_value w (Window n gs b) at leaf =
    quiet (slice_get w.notes at) (option_map (window w.meaning n gs.items) (b.value.value (at + 1) leaf))
node_value w (Flat f c gs b) at leaf =
    chosen (slice_get w.notes at) (λ cs. option_and_then (flat_map w.meaning f gs.items cs) (b.value.value (at + 1) leaf))
node_value w (FlatDelay f c gs b) at leaf =
    chosen (slice_get w.notes at) (λ cs. option_and_then (flat_map_delay w.meaning f gs.items cs) (b.value.value (at + 1) leaf))
node_value w (On k p b) at leaf = quiet (slice_get w.notes at) (b.value.value (at + 1) leaf)
node_value w (OnEager k p b) at leaf = chosen (slice_get w.notes at) (λ cs. option_and_then (eager_of cs) (b.value.value (at + 1) leaf))

-- what one node means, from what its children mean
abbrev pub node_meant : {T : Type 0} → Environment T → Expr-F T (Meant T) → Meant T
node_meant w e = record {
  nodes = 1 + sum_of (map (λ m. m.nodes) (children e));
  leaves = leaf_here e + sum_of (map (λ m. m.leaves) (children e));
  value = node_value w e;
}

-- what an expression means
abbrev pub meant : {T : Type 0} → Environment T → Expr T → Meant T
meant {T} w = fold-Expr T (Meant T) (node_meant w)

-- the value of a whole expression; none where the notes or the joins don't fit
abbrev pub eval : {T : Type 0} → Environment T → Expr T → Option (Stream T)
eval w e = (meant w e).value 0 0
