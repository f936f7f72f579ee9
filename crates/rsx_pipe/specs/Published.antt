-- What the hubs published, and a part to whose nodes a signal of a hub is handed.
use Rattle.std.specs.Prelude.{◌≡◌, ⊤, ℕ, Bool, true, false, if◌then◌else◌, List, [], ◌∷◌, Option, Some}
use Rattle.rsx_sources.specs.Prelude.{Meaning, Allocates, Stream, Signal, ends_input, reads_hub}
use Rattle.rsx_hub.specs.Hub.{HubState, HasTakenIn}
use Rattle.rsx_hub.specs.Member.{ending_taken}
use Rattle.rsx_hub.specs.Waiting.{is_open}
use Rattle.rsx_model.specs.declared.expr.Expr.{Expr}
use Rattle.rsx_sources.specs.declared.machine.Machine.{Ghosts as Machine}
use Rattle.rsx_tree.specs.declared.edge.Edge.{Edge}
use Rattle.rsx_tree.specs.declared.edge.EdgeState.TheVariants.{Live}
use Rattle.rsx_tree.specs.Edges.{is_live}
use Rattle.rsx_tree.specs.Handed as Tree
use Rattle.rsx_pipe.specs.Output.{IsOpenAt, with_signal_at}
use Rattle.rsx_pipe.specs.Part.{PartStands, all_edges, pump_allocates}
use Rattle.rsx_pipe.specs.Tree.{notes_of}
use Rattle.rsx_pipe.specs.Part.{Part}

-- this is what a hub took in: its items, and its ending once that was taken in too
pub record IsTaken {T : Type 0} (h : HubState T) (v : Stream T) : Type 0 where
  pub taken : HasTakenIn h v.items
  pub ending : v.ending ≡ ending_taken h.has_ended h.ending
  pub closed : h.has_ended ≡ true → is_open h.ending ≡ false

-- so of each hub
abbrev pub AreTaken : {T : Type 0} → List (HubState T) → List (Stream T) → Type 0
AreTaken [] [] = ⊤
AreTaken (h ∷ hs) (v ∷ vs) = IsTaken h v × AreTaken hs vs
AreTaken [] (v ∷ vs) = ⊥
AreTaken (h ∷ hs) [] = ⊥

-- how many nodes of a part read a hub; with a root edge that isn't live, none
abbrev pub readers : {M T : Type 0} → Machine M T → ℕ → Part M → ℕ
readers b h part = if is_live part.root.state then Tree.readers b h part.tree else 0

-- whether all of them have room for an item
abbrev pub has_room_for : {M T : Type 0} → Machine M T → ℕ → Part M → Bool
has_room_for b h part = if is_live part.root.state then Tree.has_room b h part.tree else true

-- the edge over which the first node of a part, in pre-order, that reads the hub sends, whether it is live or not: the root edge,
-- where that is the root
abbrev pub reader_edge : {M T : Type 0} → Machine M T → ℕ → Part M → Option Edge
reader_edge b h part = if reads_hub h (b.reads part.tree.machine) then Some part.root else Tree.reader_edge_in b h part.tree.inputs

-- each node that reads the hub took the signal in, and nothing else changed
pub record IsHanded {M T : Type 0} (b : Machine M T) (h : ℕ) (s : Signal T) (old new : Part M) : Type 0 where
  -- the part stands for the same, where the hub published that signal besides
  pub stands : (m : Meaning T) (published : List (Stream T)) (e : Expr T) (joins : List ℕ) (output : List (Signal T)) → IsOpenAt h published →
      PartStands b m published old e joins output → PartStands b m (with_signal_at h s published) new e joins output
  -- after an ending none of its nodes reads the hub
  pub ended : ends_input s ≡ true → readers b h new ≡ 0
  pub edges : all_edges new ≡ all_edges old
  pub root : new.root ≡ old.root
  pub notes : notes_of b new.tree ≡ notes_of b old.tree
  pub calls : (a : Allocates) → pump_allocates b a new ≡ pump_allocates b a old
  -- behind a live root edge the tree took it in, and a part with another root edge is as it was
  pub tree : old.root.state ≡ Live → Tree.IsHanded b h s old.tree new.tree
  pub still : (old.root.state ≡ Live → ⊥) → new ≡ old
