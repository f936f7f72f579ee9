-- How a piece is cut.
use Rattle.std.specs.Prelude.{◌≡◌, ◌⊎◌, ◌+◌, ◌≤◌, ℕ, List, [], ◌∷◌, ◌++◌, length, Some, None, option_map}
use Rattle.rsx_sources.specs.declared.machine.Machine.{Ghosts as Machine}
use Rattle.rsx_rooted.specs.declared.nodes.CrossingNodes.{Ghosts as CrossingNodes}
use Rattle.rsx_rooted.specs.Local.{ReadsNot}
use Rattle.rsx_tree.specs.declared.edge.Edge.{Edge}
use Rattle.rsx_tree.specs.declared.edge.EdgeState.TheVariants.{Live}
use Rattle.rsx_tree.specs.Edges.{edge_view}
use Rattle.rsx_tree.specs.Stepped.{station_of}
use Rattle.rsx_pipe.specs.Crossing.{edge_over}
use Rattle.rsx_pipe.specs.Cutting.{IsCut, new_root}
use Rattle.rsx_pipe.specs.Part.{Part}
use Rattle.rsx_pipe.specs.Published.{reader_edge}
use Rattle.rsx_link.specs.Ends.{AreOpened, received_signals}
use Rattle.rsx_link.specs.declared.link.Link.{Link}
use Rattle.rsx_link.specs.declared.up.Up.{Up}
use Rattle.rsx_region.specs.Joined.{IsReader}
use Rattle.rsx_region.specs.declared.inlet.Inlet.{Inlet}
use Rattle.rsx_region.specs.Pieces.{Each, hub_of}
use Rattle.rsx_region.specs.declared.halves.Below.{Below}
use Rattle.rsx_region.specs.declared.halves.TheConstants.{LINK_PLACES}
use Rattle.rsx_region.specs.declared.piece.Incoming.{Incoming}
use Rattle.rsx_region.specs.declared.piece.Piece.{Piece}

-- no node of the part reads the hub or the link with this number
abbrev pub NoneReadsIn : {M T : Type 0} → Machine M T → ℕ → Part M → Type 0
NoneReadsIn b h part = ReadsNot b h part.tree

module _ {T : Type 0} where
  -- no link that comes in is read under this number
  abbrev pub NoneHasNumber : ℕ → List (Incoming T) → Type 0
  NoneHasNumber h is = Each (λ (i : Incoming T). hub_of i ≡ h → ⊥) is

module _ {M T : Type 0} where
  -- no node of the part reads one of these links
  abbrev pub ReadsNone : Machine M T → List (Incoming T) → Part M → Type 0
  ReadsNone b is part = Each (λ (i : Incoming T). NoneReadsIn b (hub_of i) part) is

  -- the same piece, but for the room that its list has
  pub record SamePiece (old new : Piece M T) : Type 0 where
    pub part : new.part ≡ old.part
    pub link : new.link ≡ old.link
    pub up : new.up ≡ old.up
    pub inlets : new.inlets.items ≡ old.inlets.items

  -- the numbers of the edge and of the link, which comes into the upper half behind the others
  pub record HasNumbers (edge number read : ℕ) (upper : Piece M T) (below : Below M T) : Type 0 where
    pub at : below.at ≡ edge
    pub others : List (Incoming T)
    pub last : Incoming T
    pub ins : upper.inlets.items ≡ others ++ last ∷ []
    pub comes : last.link ≡ number
    pub sends : below.piece.link ≡ number
    pub hub : hub_of last ≡ read

  -- the node reads nothing yet, goes on from what was sent over the edge, and the link counts so, too
  pub record IsMadeFor (b : Machine M T) (crossing : CrossingNodes M T) (edge : Edge) (read : ℕ) (reader : M) (link : Link T) (up : Up T) (inlet : Inlet T) : Type 0 where
    pub reads : IsReader b crossing read edge.demand.sent reader
    pub opened : AreOpened LINK_PLACES edge.demand.asked edge.demand.sent link up inlet.down inlet.closer
    pub hub : inlet.hub ≡ read

  -- no link comes into the piece, and the edge of its root is live
  pub record IsWhole (p : Piece M T) : Type 0 where
    pub none : p.inlets.items ≡ []
    pub live : p.part.root.state ≡ Live

  abbrev pub AreWhole : List (Piece M T) → Type 0
  AreWhole ps = Each IsWhole ps

  -- nothing came over a link that comes into it
  abbrev pub HasTakenNothing : Piece M T → Type 0
  HasTakenNothing p = Each (λ (i : Incoming T). received_signals i.inlet.down ≡ []) p.inlets.items

  -- over the edge of the node that reads the hub or the link at least as much is asked as over that edge
  abbrev pub AsksAsMuch : Machine M T → ℕ → Edge → Part M → Type 0
  AsksAsMuch b h edge part = (e : Edge) → reader_edge b h part ≡ Some e → edge.demand.asked ≤ e.demand.asked

  -- so many items fit into a link, the part counts what went over the edge and them, and reads none of these links
  pub record FitsBelow (b : Machine M T) (edge : Edge) (inlets : List (Incoming T)) (part : Part M) (count : ℕ) : Type 0 where
    pub live : part.root.state ≡ Live
    pub few : count ≤ LINK_PLACES
    pub asked : part.root.demand.asked ≡ edge.demand.asked
    pub sent : edge.demand.sent + count ≡ part.root.demand.sent
    pub free : ReadsNone b inlets part

  -- a part was cut so
  pub record IsCutOff (b : Machine M T) (crossing : CrossingNodes M T) (old : Part M) (at hub : ℕ) (reader : M) (edge : Edge) (inlets : List (Incoming T)) (part : Part M) (queue : List T) (new : Part M) : Type 0 where
    pub cut : IsCut b crossing old at reader part queue new
    pub asks : AsksAsMuch b hub edge new
    pub fits : FitsBelow b edge inlets part (length queue)

  -- The part isn't one that is cut at this edge, or what would be cut off doesn't fit.
  abbrev pub CannotFit : Machine M T → CrossingNodes M T → Part M → ℕ → ℕ → M → Edge → List (Incoming T) → Type 0
  CannotFit b crossing old at hub reader edge inlets =
      (new_root crossing.edge_queue old at ≡ None)
      ⊎ ((part : Part M) × (queue : List T) × (new : Part M) × IsCut b crossing old at reader part queue new × (AsksAsMuch b hub edge new → FitsBelow b edge inlets part (length queue) → ⊥))

  -- so it is with a reader of this link, which counts on from what went over that edge
  pub record DoesNotFit (b : Machine M T) (crossing : CrossingNodes M T) (p : Piece M T) (at hub : ℕ) : Type 0 where
    pub edge : Edge
    pub is : option_map edge_over (station_of p.part.tree (edge_view p.part.root) at) ≡ Some (edge_view edge)
    pub reader : M
    pub reads : IsReader b crossing hub edge.demand.sent reader
    pub cannot : CannotFit b crossing p.part at hub reader edge p.inlets.items

  -- Why a piece isn't cut there: there is no such edge; it is the edge of the root; the number is in use; or it doesn't fit.
  abbrev pub StaysWhole : Machine M T → CrossingNodes M T → Piece M T → ℕ → ℕ → Type 0
  StaysWhole b crossing p at hub =
      (station_of p.part.tree (edge_view p.part.root) at ≡ None) ⊎ ((at ≡ 0)
      ⊎ ((NoneReadsIn b hub p.part → NoneHasNumber hub p.inlets.items → ⊥) ⊎ DoesNotFit b crossing p at hub))
