-- A batch that was made of a row, and what the row is after it.
use Rattle.std.specs.Prelude.{◌≡◌, ◌⊎◌, ℕ, ◌+◌, ◌≤◌, Bool, true, false, List, [], ◌∷◌, ◌++◌}
use Rattle.rsx_sources.specs.Prelude.{Meaning}
use Rattle.rsx_sources.specs.declared.machine.Machine.{Ghosts as Machine}
use Rattle.rsx_tree.specs.Edges.{edge_view, is_live}
use Rattle.rsx_tree.specs.declared.edge.Edge.{Edge}
use Rattle.rsx_tree.specs.declared.inputs.Inputs.{Inputs, End, More'}
use Rattle.rsx_rooted.specs.Items.{IsRowBatch, carried, room}
use Rattle.rsx_rooted.specs.declared.batch.Noted.{Noted}
use Rattle.rsx_rooted.specs.declared.rooted.Rooted.{Rooted}

-- how many items go over the edges, and how many steps the nodes make for them, in all
abbrev pub moves_of : {T : Type 0} → List (Noted T) → ℕ
moves_of [] = 0
moves_of (x ∷ xs) = x.took + x.steps + moves_of xs

-- the notes of the nodes below, from the lowest one up, are as many as there are nodes on the way down from the first live edge of
-- these, and over no edge go more items than it has room for, where so many go over the first one
abbrev pub FitsBelow : {M T : Type 0} → List (Noted T) → ℕ → Inputs M → Type 0
FitsBelow notes took End = notes ≡ []
FitsBelow {T = T} notes took (More' e n p below q beside) =
    ((is_live e.state ≡ true) × (took ≤ room (edge_view e)) × (others : List (Noted T)) × (top : Noted T) × (notes ≡ others ++ top ∷ []) × FitsBelow others top.took below)
    ⊎ ((is_live e.state ≡ false) × FitsBelow notes took beside)

-- the same with the note of the node over them
abbrev pub Fits : {M T : Type 0} → List (Noted T) → Inputs M → Type 0
Fits {T = T} notes row = (others : List (Noted T)) × (top : Noted T) × (notes ≡ others ++ top ∷ []) × FitsBelow others top.took row

-- the nodes on that way went on as they noted, and the edges counted what went over them
abbrev pub HaveGoneOn : {M T : Type 0} → (M → Noted T → M → Type 0) → List (Noted T) → ℕ → Inputs M → Inputs M → Type 0
HaveGoneOn went notes took End new = (notes ≡ []) × (new ≡ End)
HaveGoneOn {M} {T} went notes took (More' e n p below q beside) new =
    ((is_live e.state ≡ true) × (e' : Edge) × (n' : M) × (below' : Inputs M) × (others : List (Noted T)) × (top : Noted T)
    × (new ≡ More' e' n' p below' q beside) × (edge_view e' ≡ carried (edge_view e) took) × (notes ≡ others ++ top ∷ []) × went n top n' × HaveGoneOn went others top.took below below')
    ⊎ ((is_live e.state ≡ false) × (beside' : Inputs M) × (new ≡ More' e n p below q beside') × HaveGoneOn went notes took beside beside')

-- so did a node and those below it
abbrev pub HasGoneOn : {M T : Type 0} → (M → Noted T → M → Type 0) → List (Noted T) → M → Inputs M → M → Inputs M → Type 0
HasGoneOn {T = T} went notes n row n' row' = (others : List (Noted T)) × (top : Noted T) × (notes ≡ others ++ top ∷ []) × went n top n' × HaveGoneOn went others top.took row row'

-- these items were made of a node with these inputs, the first of which is its input i, and this was noted. If the nodes go on as they
-- noted, it does what single moves do that bring one item after the other all the way up.
pub record IsTried {M T : Type 0} (b : Machine M T) (went : M → Noted T → M → Type 0) (m : Meaning T) (i : ℕ) (n : M) (row : Inputs M) (items : List T) (notes : List (Noted T)) : Type 0 where
  pub fits : Fits notes row
  -- whether the node puts out each item by a step
  pub by_step : Bool
  pub made : (asked sent : ℕ) (n' : M) (row' : Inputs M) → HasGoneOn went notes n row n' row' → IsRowBatch b m by_step (moves_of notes) i asked sent n row items n' row'

-- ---- a tree with the edge from its root

-- what was noted fits the tree, and its root edge has room for so many items
abbrev pub FitsOver : {M T : Type 0} → List (Noted T) → ℕ → Rooted M → Type 0
FitsOver notes count part = Fits notes part.tree.inputs × (count ≤ room (edge_view part.root))

-- the tree went on as it was noted, and its root edge counted so many items
pub record HasGoneOnBy {M T : Type 0} (went : M → Noted T → M → Type 0) (notes : List (Noted T)) (count : ℕ) (old new : Rooted M) : Type 0 where
  pub tree : HasGoneOn went notes old.tree.machine old.tree.inputs new.tree.machine new.tree.inputs
  pub root : edge_view new.root ≡ carried (edge_view old.root) count
