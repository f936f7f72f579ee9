-- Trees that are cut further, and the region of each piece.
use Rattle.std.specs.Prelude.{◌≡◌, ◌⊎◌, ◌+◌, ◌≤◌, ◌^◌, ℕ, zero, suc, Bool, true, false, List, [], ◌∷◌, ◌++◌, map, Option, Some, None, option_map, length, slice_get}
use Rattle.std.proofs.Common.{Vec, Global}
use Rattle.rsx_region.specs.Pieces.{none_taken}
use Rattle.rsx_sources.specs.Prelude.{Meaning}
use Rattle.rsx_sources.specs.declared.machine.Machine.{Ghosts as Machine}
use Rattle.rsx_rooted.specs.declared.nodes.CrossingNodes.{Ghosts as CrossingNodes}
use Rattle.rsx_tree.specs.Edges.{edge_view}
use Rattle.rsx_tree.specs.Stepped.{station_of}
use Rattle.rsx_pipe.specs.Part.{Part}
use Rattle.rsx_region.specs.Trees.{AreCutFrom, IsOneCut, IsReadUnder, SameStage, Stage, StaysWholeAt, stage_of}
use Rattle.rsx_region.specs.declared.piece.Piece.{Piece}
use Rattle.rsx_region.specs.declared.trees.CutTrees.{CutTrees}
use Rattle.rsx_runtime.specs.declared.tap.Tap.{Tap}
use Rattle.rsx_live_parts.specs.Cursors.{first_of, passed_by, region_in, root_in, sender_at}
use Rattle.rsx_live_parts.specs.declared.cutting.Cursor.{Cursor}

-- Whatever the trees were cut from, with nothing done since, they are cut from that still, where there may be as many hubs and links as
-- there are numbers.
abbrev pub AreCutStill : {M T : Type 0} → Machine M T → CrossingNodes M T → CutTrees M T → CutTrees M T → Type 0
AreCutStill {M} {T} b crossing old new = (m : Meaning T) (n : ℕ) (whole : Stage M T) → 2 ^ 32 ≤ n → AreCutFrom b crossing m (none_taken n) whole old → AreCutFrom b crossing m (none_taken n) whole new

-- ---- edges that cross

-- whether the edge with this number of the part crosses; none where it has fewer edges
abbrev pub crosses_at : {M T : Type 0} → Machine M T → Part M → ℕ → Option Bool
crosses_at b part at = option_map (λ s. b.crosses s.machine) (station_of part.tree (edge_view part.root) at)

abbrev pub one_of : Option Bool → ℕ
one_of (Some true) = 1
one_of (Some false) = 0
one_of None = 0

-- how many of its first edges do
abbrev pub crossing_to : {M T : Type 0} → Machine M T → Part M → ℕ → ℕ
crossing_to b part zero = 0
crossing_to b part (suc n) = crossing_to b part n + one_of (crosses_at b part n)

-- so many of its edges do, of those that have a number below 2^32 - 1
pub record CountsCrossing {M T : Type 0} (b : Machine M T) (part : Part M) (number : ℕ) : Type 0 where
  pub count : ℕ
  pub all : (count + 1 ≡ 2 ^ 32) ⊎ (crosses_at b part count ≡ None)
  pub is : number ≡ crossing_to b part count

-- so it is with the edge of the piece at that place of these trees
abbrev pub Crosses : {M T : Type 0} → Machine M T → CutTrees M T → ℕ → ℕ → Option Bool → Type 0
Crosses {M} {T} b t above at is = (p : Piece M T) × (slice_get t.pieces.items above ≡ Some p) × (crosses_at b p.part at ≡ is)

-- so many edges of the last piece cross
abbrev pub LastCounts : {M T : Type 0} → Machine M T → CutTrees M T → ℕ → Type 0
LastCounts {M} {T} b t number = (others : List (Piece M T)) × (p : Piece M T) × (t.pieces.items ≡ others ++ p ∷ []) × CountsCrossing b p.part number

-- ---- cuts

-- trees, with the region of each piece, and the place where its senders begin
pub record Sweep (M T : Type 0) : Type 0 where
  pub trees : CutTrees M T
  pub places : List ℕ
  pub cursors : List Cursor

abbrev pub sweep_of : {M T : Type 0} → CutTrees M T → Vec ℕ Global → Vec Cursor Global → Sweep M T
sweep_of t places cursors = record { trees = t; places = places.items; cursors = cursors.items }

module _ {M T : Type 0} (b : Machine M T) (crossing : CrossingNodes M T) where
  -- The piece at the place `above` was cut at this edge. What was cut off is in this region, its senders begin at that place, and so many
  -- of its edges cross. Its link is read under its own number.
  pub record IsCutOff (above at region : ℕ) (begin : Cursor) (below : ℕ) (old new : Sweep M T) : Type 0 where
    pub cut : IsOneCut b crossing (stage_of old.trees) above at (stage_of new.trees)
    pub hub : IsReadUnder (length old.trees.links.items) above new.trees.pieces.items
    pub placed : new.places ≡ old.places ++ region ∷ []
    pub begins : new.cursors ≡ old.cursors ++ begin ∷ []
    pub counts : LastCounts b new.trees below

  -- it can't be cut there, and nothing changed but the room that lists have
  pub record IsLeftWhole (above at below : ℕ) (old new : Sweep M T) : Type 0 where
    pub whole : StaysWholeAt b crossing old.trees above at (length old.trees.links.items)
    pub same : SameStage (stage_of old.trees) (stage_of new.trees)
    pub placed : new.places ≡ old.places
    pub begins : new.cursors ≡ old.cursors
    pub none : below ≡ 0

  abbrev pub IsCutOrWhole : ℕ → ℕ → ℕ → Cursor → ℕ → Sweep M T → Sweep M T → Type 0
  IsCutOrWhole above at region begin below old new = IsCutOff above at region begin below old new ⊎ IsLeftWhole above at below old new

  -- The next edge of the piece at the place `above` was tried, where the next sender of its tree is at this place. Where it crosses, that
  -- is the sender over it; the senders of what was cut off come behind that. Where it doesn't, nothing was done.
  abbrev pub IsTried : ℕ → List (Vec ℕ Global) → ℕ → ℕ → Sweep M T → Cursor → Sweep M T → Cursor → Type 0
  IsTried count senders above at old c new d =
      (Crosses b old.trees above at (Some true) × ((below : ℕ) × IsCutOrWhole above at (region_in count (sender_at senders c)) (passed_by 1 c) below old new × (d ≡ passed_by below (passed_by 1 c))))
      ⊎ (Crosses b old.trees above at (Some false) × (new ≡ old) × (d ≡ c))

  -- so many of its edges were tried, one after the other
  abbrev pub AreTried : ℕ → List (Vec ℕ Global) → ℕ → ℕ → Sweep M T → Cursor → Sweep M T → Cursor → Type 0
  AreTried count senders above zero old c new d = (new ≡ old) × (d ≡ c)
  AreTried count senders above (suc n) old c new d = (mid : Sweep M T) × (e : Cursor) × AreTried count senders above n old c mid e × IsTried count senders above n mid e new d

  -- so were all of them that have a number below 2^32 - 1
  pub record IsSwept (count : ℕ) (senders : List (Vec ℕ Global)) (above : ℕ) (old new : Sweep M T) : Type 0 where
    pub edges : ℕ
    pub begin : Cursor
    pub last : Cursor
    pub there : slice_get old.cursors above ≡ Some begin
    pub tried : AreTried count senders above edges old begin new last
    pub all : (edges + 1 ≡ 2 ^ 32) ⊎ Crosses b new.trees above edges None

  -- so were so many of the pieces, one after the other
  abbrev pub AreSwept : ℕ → List (Vec ℕ Global) → ℕ → Sweep M T → Sweep M T → Type 0
  AreSwept count senders zero old new = new ≡ old
  AreSwept count senders (suc n) old new = (mid : Sweep M T) × AreSwept count senders n old mid × IsSwept count senders n mid new

  -- Trees were cut, each of which is that of its tap, and each root in its region: so were all pieces, with those that were cut off; there
  -- may be 2^32 - 1. The pieces are in these regions.
  pub record AreAllSwept (count : ℕ) (senders : List (Vec ℕ Global)) (roots : List ℕ) (taps : List (Tap T)) (old new : CutTrees M T) (places : List ℕ) : Type 0 where
    pub pieces : ℕ
    pub cursors : List Cursor
    pub swept : AreSwept count senders pieces (record { trees = old; places = map (root_in count roots) taps; cursors = map first_of taps }) (record { trees = new; places = places; cursors = cursors })
    pub all : (pieces + 1 ≡ 2 ^ 32) ⊎ (length new.pieces.items ≤ pieces)
