-- Which edges of a tree that was made have a queue: those that join two regions.
use Rattle.std.specs.Prelude.{◌≡◌, ℕ, Bool, false, List, map, None}
use Rattle.rsx_model.specs.declared.expr.Expr.{Expr}
use Rattle.rsx_model.specs.Region.{region_from, region_of}
use Rattle.rsx_kinds.specs.Any.{TreeNode}
use Rattle.rsx_tree.specs.declared.inputs.Inputs.{Inputs, End}
use Rattle.rsx_tree.specs.declared.node.Node.{Node}
use Rattle.rsx_rooted.specs.Crossings as OfAny
pub use Rattle.rsx_queued.specs.Sender.{is_crossing}
pub use Rattle.rsx_rooted.specs.Crossings.{Placed, differ, fresh_crossings, opposite, placed, placed_beside, placed_here, placed_in}

-- whether each node of a row has, in pre-order
abbrev pub crossings : {T : Type 0} → Inputs (TreeNode T) → List Bool
crossings row = OfAny.crossings is_crossing row

-- the edges below the root of a tree have a queue just where they join two regions, and the root's own edge has one or not
abbrev pub IsPlaced : {T : Type 0} → Expr T → Bool → Node (TreeNode T) → Type 0
IsPlaced e crosses t = OfAny.IsPlaced is_crossing e crosses t

-- the same of a row of trees that were made for these expressions, for a node in this region
abbrev pub ArePlaced : {T : Type 0} → ℕ → List (Expr T) → Inputs (TreeNode T) → Type 0
ArePlaced r es row = crossings row ≡ placed_beside r (map placed es)

-- the same of a node over a row of trees, in the region of the first
abbrev pub IsPlacedOver : {T : Type 0} → List (Expr T) → Node (TreeNode T) → Type 0
IsPlacedOver es t = (is_crossing t.machine ≡ false) × ArePlaced (region_from None (map region_of es)) es t.inputs

-- a source alone
pub record IsAlone {T : Type 0} (t : Node (TreeNode T)) : Type 0 where
  pub root : is_crossing t.machine ≡ false
  pub below : t.inputs ≡ End
