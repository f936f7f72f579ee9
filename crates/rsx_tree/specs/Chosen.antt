-- What a pick and a row change in a tree: the edges below the node, where it ended by it, and what the nodes recorded.
use Rattle.std.specs.Prelude.{◌≡◌, ℕ, zero, suc, ◌-◌, Bool, nat_eq, nat_le, if◌then◌else◌, List, [], ◌∷◌, ◌++◌, length, Option, Some}
use Rattle.rsx_sources.specs.Prelude.{Meaning, note_then, notes_then, Stream, Note}
use Rattle.rsx_sources.specs.declared.machine.Machine.{Ghosts as Machine}
use Rattle.rsx_tree.specs.declared.inputs.Inputs.{Inputs, End, More'}
use Rattle.rsx_tree.specs.declared.node.Node.{Node}
use Rattle.rsx_tree.specs.Edges.{EdgeView, edge_view, closed_if}
use Rattle.rsx_tree.specs.Inputs.{size, tests, edges as edges_in}
use Rattle.rsx_tree.specs.Stepped.{Station, station_of, IsRecordedHere, IsSteppedAt, StaysOver}
use Rattle.rsx_tree.specs.Tree.{comes_out, edges, notes}

-- ---- notes

-- the note with this number changed
abbrev pub noted_at : ℕ → (Note → Note) → List Note → List Note
noted_at at f [] = []
noted_at zero f (k ∷ ks) = f k ∷ ks
noted_at (suc at) f (k ∷ ks) = k ∷ noted_at at f ks

-- a note behind what the node `at` recorded
abbrev pub recorded_at : ℕ → Note → List Note → List Note
recorded_at at note ns = noted_at at (λ n. note_then n note) ns

-- between these trees some nodes chose: what each chose stands in front of what it still chooses, and behind what it recorded
pub record IsChosen {M T : Type 0} (b : Machine M T) (m : Meaning T) (old new : Node M) : Type 0 where
  pub choose : List Note → List Note
  pub count : (further : List Note) → length (choose further) ≡ length further
  pub value : (hubs : List (Stream T)) (further : List Note) → comes_out b m hubs further new 0 ≡ comes_out b m hubs (choose further) old 0
  pub nodes : length (notes b new) ≡ length (notes b old)
  pub notes : (further : List Note) → notes_then (notes b new) further ≡ notes_then (notes b old) (choose further)

-- ---- edges

-- whether a node has put out its ending
abbrev pub ended_there : {M T : Type 0} → Machine M T → Option (Station M) → Bool
ended_there b o = tests (λ s. b.ended s.machine) o

-- the edges after a step of the node `at` of a row; where it ended by it, all below it are closed
abbrev pub stepped_edges : {M : Type 0} → Bool → Inputs M → ℕ → List EdgeView
stepped_edges ended End at = []
stepped_edges ended (More' e n p below q beside) at =
    if nat_eq at 0 then edge_view e ∷ (closed_if ended (edges_in below) ++ edges_in beside)
    else (if nat_le at (size below) then edge_view e ∷ (stepped_edges ended below (at - 1) ++ edges_in beside)
    else edge_view e ∷ (edges_in below ++ stepped_edges ended beside (at - 1 - size below)))

-- the edges below the root after a step of the node `at` of a tree, the root being 0
abbrev pub edges_after : {M : Type 0} → Bool → Node M → ℕ → List EdgeView
edges_after ended t zero = closed_if ended (edges t)
edges_after ended t (suc at) = stepped_edges ended t.inputs at

-- ---- a pick, and a row, of the node `at` of a tree, whose root has the number 0 and this edge

-- the choice stands behind what the node recorded; all other notes stay, and no other node changed
pub record IsPickedAt {M T : Type 0} (b : Machine M T) (old : Node M) (e : EdgeView) (at input : ℕ) (new : Node M) : Type 0 where
  pub there : Station M
  pub is : station_of old e at ≡ Some there
  pub edges : edges new ≡ edges_after (ended_there b (station_of new e at)) old at
  pub notes : notes b new ≡ recorded_at at (b.recording there.machine input) (notes b old)
  pub step : IsSteppedAt (IsRecordedHere b input) b.ended old e at new
  pub over : IsSteppedAt (StaysOver b) b.ended old e at new

-- all notes stay, and the row made of the node what it makes of such a node; no other node changed
pub record IsRowAt {M T : Type 0} (b : Machine M T) (old : Node M) (e : EdgeView) (at : ℕ) (new : Node M) : Type 0 where
  pub edges : edges new ≡ edges_after (ended_there b (station_of new e at)) old at
  pub notes : notes b new ≡ notes b old
  pub step : IsSteppedAt b.rowed b.ended old e at new
  pub over : IsSteppedAt (StaysOver b) b.ended old e at new
