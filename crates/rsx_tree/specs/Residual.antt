-- What still comes out of a tree, by what its nodes hold and what stands in the inboxes of the hubs that they read.
use Rattle.std.specs.Prelude.{◌≡◌, ◌⊎◌, ⊤, ℕ, ◌+◌, Bool, true, false, List, [], ◌∷◌, ◌++◌, Some}
use Rattle.rsx_sources.specs.Prelude.{Meaning, Stream, Note, IsBehind}
use Rattle.rsx_sources.specs.declared.machine.Machine.{Ghosts as Machine}
use Rattle.rsx_tree.specs.Balance.{IsRowBalanced, IsBalanced}
use Rattle.rsx_tree.specs.Edges.{is_live}
use Rattle.rsx_tree.specs.Inputs.{comes_in, IsUnchosen}
use Rattle.rsx_tree.specs.Tree.{comes_out, IsUnchosen as IsTreeUnchosen}
use Rattle.rsx_tree.specs.declared.inputs.Inputs.{Inputs, End, More'}
use Rattle.rsx_tree.specs.declared.node.Node.{Node}

-- what a node of a row, or below it, has not taken in of its hub stands in that hub's inbox, where `hubs` are the whole values
-- of all hubs; what is behind an edge that isn't live takes nothing in
abbrev pub IsRowBehind : {M T : Type 0} → Machine M T → List (Stream T) → List (Stream T) → Inputs M → Type 0
IsRowBehind b inboxes hubs End = ⊤
IsRowBehind b inboxes hubs (More' e n p below q beside) =
    ((is_live e.state ≡ false) ⊎ (IsBehind (b.reads n) inboxes hubs × IsRowBehind b inboxes hubs below)) × IsRowBehind b inboxes hubs beside

-- the same of a tree whose root's own edge is live
abbrev pub IsTreeBehind : {M T : Type 0} → Machine M T → List (Stream T) → List (Stream T) → Node M → Type 0
IsTreeBehind b inboxes hubs t = IsBehind (b.reads t.machine) inboxes hubs × IsRowBehind b inboxes hubs t.inputs

-- two lists of values at the inputs from i on, the same but for inputs whose completion was taken
abbrev pub AgreeFrom : {T : Type 0} → (ℕ → Bool) → ℕ → List (Stream T) → List (Stream T) → Type 0
AgreeFrom done i [] [] = ⊤
AgreeFrom done i (v ∷ vs) (w ∷ ws) = ((done i ≡ true) ⊎ (w ≡ v)) × AgreeFrom done (i + 1) vs ws
AgreeFrom done i [] (w ∷ ws) = ⊥
AgreeFrom done i (v ∷ vs) [] = ⊥

-- what still comes in at each input was put behind what was there, where nothing more is chosen; at an input whose completion
-- was taken, any value
pub record IsResidual {M T : Type 0} (b : Machine M T) (m : Meaning T) (inboxes : List (Stream T)) (t : Inputs M) (old new : List (Stream T)) : Type 0 where
  pub values : List (Stream T)
  pub behind : new ≡ old ++ values
  pub comes : (r : M) (i : ℕ) (hubs : List (Stream T)) (further : List Note) (at : ℕ) → IsRowBalanced b r i t → IsRowBehind b inboxes hubs t → IsUnchosen b further t at →
      (vs : List (Stream T)) × (comes_in b m hubs further t at ≡ Some vs) × AgreeFrom (b.done r) i vs values

-- this still comes out of a tree whose counts are balanced, where just these inboxes stand behind what its nodes took in of the
-- hubs, and nothing more is chosen
abbrev pub IsTreeResidual : {M T : Type 0} → Machine M T → Meaning T → List (Stream T) → Node M → Stream T → Type 0
IsTreeResidual {M} {T} b m inboxes t v =
    (hubs : List (Stream T)) (further : List Note) (at sent : ℕ) → IsBalanced b t sent → IsTreeBehind b inboxes hubs t → IsTreeUnchosen b further t at → comes_out b m hubs further t at ≡ Some v
