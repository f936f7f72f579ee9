-- Trees that are cut at one edge after the other.
use Rattle.std.specs.Prelude.{◌≡◌, ◌⊎◌, ◌≤◌, ◌^◌, ℕ, List, [], ◌∷◌, ◌++◌, Some, length, map, slice_get, slice_set}
use Rattle.rsx_sources.specs.Prelude.{Meaning, Stream}
use Rattle.rsx_sources.specs.declared.machine.Machine.{Ghosts as Machine}
use Rattle.rsx_rooted.specs.declared.nodes.CrossingNodes.{Ghosts as CrossingNodes}
use Rattle.rsx_tree.specs.Runs.{Leads}
use Rattle.rsx_link.specs.Ends.{capacity_of}
use Rattle.rsx_link.specs.declared.link.Link.{Link}
use Rattle.rsx_region.specs.Cuts.{HasTakenNothing, SamePiece, StaysWhole}
use Rattle.rsx_region.specs.Joins.{CannotJoin, IsCutFrom}
use Rattle.rsx_region.specs.Pieces.{Each, StandsSince, hub_of}
use Rattle.rsx_region.specs.Regions.{ArePiecesOf, RegionStands}
use Rattle.rsx_region.specs.declared.halves.TheConstants.{LINK_PLACES}
use Rattle.rsx_region.specs.declared.piece.Incoming.{Incoming}
use Rattle.rsx_region.specs.declared.piece.Piece.{Piece}
use Rattle.rsx_region.specs.declared.trees.CutEdge.{CutEdge}
use Rattle.rsx_region.specs.declared.trees.CutTrees.{CutTrees}

-- pieces, and the links between and behind them
pub record Stage (M T : Type 0) : Type 0 where
  pub pieces : List (Piece M T)
  pub links : List (Link T)

-- the place of the piece above an edge, and the number of the edge in it
pub record EdgeName : Type 0 where
  pub above : ℕ
  pub at : ℕ

module _ {T : Type 0} where
  abbrev pub name_of : CutEdge T → EdgeName
  name_of e = record { above = e.above; at = e.at }

  abbrev pub names_of : List (CutEdge T) → List EdgeName
  names_of es = map name_of es

module _ {M T : Type 0} where
  abbrev pub stage_of : CutTrees M T → Stage M T
  stage_of t = record { pieces = t.pieces.items; links = t.links.items }

  -- the same links and pieces, but for the room that the lists of the pieces have
  pub record SameStage (old new : Stage M T) : Type 0 where
    pub links : new.links ≡ old.links
    pub count : length new.pieces ≡ length old.pieces
    pub each : (k : ℕ) (was is : Piece M T) → slice_get old.pieces k ≡ Some was → slice_get new.pieces k ≡ Some is → SamePiece was is

  -- The piece at this place was cut at this edge. Its upper half stands there, the lower one behind all pieces, and the link between them
  -- behind all links.
  pub record IsOneCut (b : Machine M T) (crossing : CrossingNodes M T) (old : Stage M T) (above at : ℕ) (new : Stage M T) : Type 0 where
    pub was : Piece M T
    pub upper : Piece M T
    pub lower : Piece M T
    pub link : Link T
    pub there : slice_get old.pieces above ≡ Some was
    pub pieces : new.pieces ≡ slice_set old.pieces above upper ++ lower ∷ []
    pub links : new.links ≡ old.links ++ link ∷ []
    pub cut : IsCutFrom b crossing was (record { upper = upper; lower = lower; at = at })
    pub comes : cut.inlet.link ≡ length old.links
    pub sends : lower.link ≡ length old.links
    pub small : capacity_of link ≤ LINK_PLACES

  -- the last link that comes into the piece at this place is read under this number
  pub record IsReadUnder (read place : ℕ) (ps : List (Piece M T)) : Type 0 where
    pub upper : Piece M T
    pub there : slice_get ps place ≡ Some upper
    pub others : List (Incoming T)
    pub last : Incoming T
    pub ins : upper.inlets.items ≡ others ++ last ∷ []
    pub hub : hub_of last ≡ read

  -- Pieces over whose links nothing came yet. Each stands for what it begins with, where the hubs took in these values.
  pub record IsOpen (b : Machine M T) (m : Meaning T) (hubs : List (Stream T)) (s : Stage M T) : Type 0 where
    pub ends : ArePiecesOf s.links s.pieces
    pub fresh : Each HasTakenNothing s.pieces
    pub stands : Each (λ (p : Piece M T). StandsSince b m hubs p p) s.pieces

  -- such pieces were cut at this edge
  pub record IsCutThere (b : Machine M T) (crossing : CrossingNodes M T) (m : Meaning T) (hubs : List (Stream T)) (old : Stage M T) (edge : EdgeName) (new : Stage M T) : Type 0 where
    pub before : Stage M T
    pub same : SameStage old before
    pub opens : IsOpen b m hubs before
    pub cut : IsOneCut b crossing before edge.above edge.at new

  -- the trees were cut at their edges one after the other, and nothing was done since
  pub record AreCutFrom (b : Machine M T) (crossing : CrossingNodes M T) (m : Meaning T) (hubs : List (Stream T)) (whole : Stage M T) (t : CutTrees M T) : Type 0 where
    pub last : Stage M T
    pub run : Leads (IsCutThere b crossing m hubs) whole (names_of t.edges.items) last
    pub same : SameStage last (stage_of t)
    pub opens : IsOpen b m hubs (stage_of t)

  -- The trees were cut at their edges one after the other, where the hubs had taken in `first`, and `opening` is what they were after that.
  -- Each piece stands for what it stood for then, where they have taken in `hubs` by now.
  pub record HaveGoneSince (b : Machine M T) (crossing : CrossingNodes M T) (m : Meaning T) (first hubs : List (Stream T)) (whole opening : Stage M T) (t : CutTrees M T) : Type 0 where
    pub run : Leads (IsCutThere b crossing m first) whole (names_of t.edges.items) opening
    pub links : t.links.items ≡ opening.links
    pub ends : ArePiecesOf t.links.items t.pieces.items
    pub stands : RegionStands b m hubs opening.pieces t.pieces.items

  -- Why the piece at this place isn't cut there: there are as many links as there are numbers, or the piece itself isn't cut.
  abbrev pub StaysWholeAt : Machine M T → CrossingNodes M T → CutTrees M T → ℕ → ℕ → ℕ → Type 0
  StaysWholeAt b crossing t place at hub = (2 ^ 32 ≤ length t.links.items) ⊎ ((p : Piece M T) × (slice_get t.pieces.items place ≡ Some p) × StaysWhole b crossing p at hub)

  -- at the last edge it can't be joined
  abbrev pub LastCannotJoin : Machine M T → CrossingNodes M T → CutTrees M T → Type 0
  LastCannotJoin b crossing t =
      (edges : List EdgeName) (edge : EdgeName) (pieces : List (Piece M T)) (upper lower : Piece M T) → names_of t.edges.items ≡ edges ++ edge ∷ [] → t.pieces.items ≡ pieces ++ lower ∷ [] → slice_get pieces edge.above ≡ Some upper → CannotJoin b crossing upper.part edge.at upper.inlets.items lower.part

  -- so it is since some opening
  pub record CanBeJoined (b : Machine M T) (crossing : CrossingNodes M T) (t : CutTrees M T) : Type 0 where
    pub meaning : Meaning T
    pub first : List (Stream T)
    pub hubs : List (Stream T)
    pub whole : Stage M T
    pub opening : Stage M T
    pub since : HaveGoneSince b crossing meaning first hubs whole opening t
