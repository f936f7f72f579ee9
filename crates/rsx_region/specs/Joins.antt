-- How the halves of a piece are joined, and what they were cut from.
use Rattle.std.specs.Prelude.{◌≡◌, ◌⊎◌, ◌<◌, ℕ, true, false, Bool, List, [], ◌∷◌, ◌++◌, map, Some, None}
use Rattle.rsx_sources.specs.Prelude.{Ending, Meaning, Next, Signal, Stream, ends_input}
use Rattle.rsx_sources.specs.declared.machine.Machine.{Ghosts as Machine}
use Rattle.rsx_rooted.specs.declared.nodes.CrossingNodes.{Ghosts as CrossingNodes}
use Rattle.rsx_rooted.specs.Local.{ReadsNot}
use Rattle.rsx_tree.specs.declared.edge.EdgeState.TheVariants.{Closed, Ended}
use Rattle.rsx_tree.specs.Edges.{closed_view, edge_view, is_live}
use Rattle.rsx_tree.specs.Inputs.{closed_row}
use Rattle.rsx_tree.specs.Stepped.{Station, station_of}
use Rattle.rsx_pipe.specs.Cutting.{can_join, joined, place_at}
use Rattle.rsx_pipe.specs.Feeding.{IsSentOut}
use Rattle.rsx_pipe.specs.Part.{Part, all_edges}
use Rattle.rsx_pipe.specs.Rejoined.{can_put_in, can_rejoin_ended, joined_ended, read_at}
use Rattle.rsx_pipe.specs.Tree.{IsAllClosed, IsAlike, IsKept}
use Rattle.rsx_link.specs.Ends.{carried_down, carried_up, received_signals, sent_signals}
use Rattle.rsx_region.specs.Whole.{WasCut}
use Rattle.rsx_region.specs.Pieces.{Each, StandsSince, hub_of}
use Rattle.rsx_region.specs.Halves.{Halves}
use Rattle.rsx_region.specs.declared.halves.TheConstants.{LINK_PLACES}
use Rattle.rsx_region.specs.declared.piece.Incoming.{Incoming}
use Rattle.rsx_region.specs.declared.piece.Piece.{Piece}

module _ {M T : Type 0} where
  -- ---- what was cut

  -- The halves of a piece as it was cut. A node that reads the new link took the place of the edge's.
  pub record IsCutFrom (b : Machine M T) (crossing : CrossingNodes M T) (was : Piece M T) (h : Halves M T) : Type 0 where
    pub reader : M
    pub queue : List T
    pub before : ℕ
    pub inlet : Incoming T
    pub below : 0 < h.at
    pub cut : WasCut b crossing was.part h.at (hub_of inlet) before reader h.lower.part queue h.upper.part
    -- the link comes into the upper half, behind those that came into the piece; none comes into the lower one
    pub ins : h.upper.inlets.items ≡ was.inlets.items ++ inlet ∷ []
    pub none : h.lower.inlets.items ≡ []
    -- the upper half sends where the piece did
    pub link : h.upper.link ≡ was.link
    pub up : h.upper.up ≡ was.up
    -- what was in the queue was sent into the link, both ends of which count on from what had gone over the edge
    pub sent : sent_signals h.lower.up ≡ map Next queue
    pub carried : carried_up h.lower.up ≡ before
    pub taken : carried_down inlet.inlet.down ≡ before
    -- no other link is read under its number, and no node of the lower half reads one of those
    pub apart : Each (λ (i : Incoming T). hub_of i ≡ hub_of inlet → ⊥) was.inlets.items
    pub free : Each (λ (i : Incoming T). ReadsNot b (hub_of i) h.lower.part.tree) was.inlets.items

  -- both halves stand for what they stood for as the piece was cut
  pub record HaveGone (b : Machine M T) (m : Meaning T) (hubs : List (Stream T)) (opening now : Halves M T) : Type 0 where
    pub at : now.at ≡ opening.at
    pub upper : StandsSince b m hubs opening.upper now.upper
    pub lower : StandsSince b m hubs opening.lower now.lower

  -- ---- whether they can be joined

  -- The reader is there still, and its queue takes all back. Over a live edge the lower half wasn't closed.
  pub record CanGoOn (b : Machine M T) (crossing : CrossingNodes M T) (part : Part M) (at : ℕ) (last : Incoming T) (lower : Part M) : Type 0 where
    pub below : 0 < at
    pub there : Station M
    pub is : station_of part.tree (edge_view part.root) at ≡ Some there
    pub none : last.inlet.ended ≡ None
    pub goes_on : is_live there.state ≡ true → lower.root.state ≡ Closed → ⊥
    pub takes : can_put_in b crossing (Some (hub_of last)) LINK_PLACES (place_at at part.tree) ≡ true

  -- the reader took in the ending that came over the link, and that is what the lower half sent last
  pub record CanEnd (b : Machine M T) (crossing : CrossingNodes M T) (part : Part M) (at : ℕ) (last : Incoming T) (lower : Part M) : Type 0 where
    pub below : 0 < at
    pub there : Station M
    pub is : station_of part.tree (edge_view part.root) at ≡ Some there
    pub ending : Ending
    pub ended : last.inlet.ended ≡ Some ending
    pub read : read_at crossing (place_at at part.tree) ≡ Some ending
    pub over : lower.root.state ≡ Ended
    pub takes : can_put_in b crossing None 0 (place_at at part.tree) ≡ true

  -- neither is so of the last link
  abbrev pub CannotJoin : Machine M T → CrossingNodes M T → Part M → ℕ → List (Incoming T) → Part M → Type 0
  CannotJoin b crossing part at inlets lower =
      (others : List (Incoming T)) (last : Incoming T) → inlets ≡ others ++ last ∷ [] → (CanGoOn b crossing part at last lower → ⊥) × (CanEnd b crossing part at last lower → ⊥)

  -- all its links have smaller numbers than this
  pub record HasNoOther (count : ℕ) (p : Piece M T) : Type 0 where
    pub sends : p.link < count
    pub comes : Each (λ (i : Incoming T). i.link < count) p.inlets.items

  -- ---- what it is joined to

  -- all edges of the part were closed, and nothing else changed
  pub record IsShut (b : Machine M T) (old new : Part M) : Type 0 where
    pub kept : (m : Meaning T) → IsKept b m old.tree new.tree
    pub alike : IsAlike b old.tree new.tree
    pub none : IsAllClosed new.tree
    pub tree : new.tree ≡ record old.tree { inputs = closed_row old.tree.inputs }
    pub edges : all_edges new ≡ map closed_view (all_edges old)

  -- so it was, unless the edge over it is live
  abbrev pub IsShutUnless : Machine M T → Bool → Part M → Part M → Type 0
  IsShutUnless b true old new = new ≡ old
  IsShutUnless b false old new = IsShut b old new

  -- where the edge of its root has no queue, it was joined with these items in the queue there
  abbrev pub IsPutAt : Machine M T → CrossingNodes M T → Part M → ℕ → ℕ → List T → Part M → Part M → Type 0
  IsPutAt b crossing part at hub items below new =
      b.crosses below.tree.machine ≡ false → (can_join b crossing part at hub below.tree.machine items ≡ true) × (new ≡ joined crossing part at below items)

  -- of what remained of the link, the items were put there; an ending behind them was put back into the lower part first
  abbrev pub IsPutBack : Machine M T → CrossingNodes M T → Part M → ℕ → ℕ → List (Signal T) → Part M → Part M → Type 0
  IsPutBack b crossing part at hub remaining below new =
      (items : List T)
      × (((remaining ≡ map Next items) × IsPutAt b crossing part at hub items below new)
      ⊎ ((s : Signal T) × (rest : List (Signal T)) × (kept : Part M) × (remaining ≡ map Next items ++ s ∷ rest) × (ends_input s ≡ true)
      × ((m : Meaning T) (before : Part M) → IsSentOut b m before s below → kept ≡ before) × IsPutAt b crossing part at hub items kept new))

  -- the lower part took the place of the reader
  pub record IsJoinedGoing (b : Machine M T) (crossing : CrossingNodes M T) (part : Part M) (at : ℕ) (last : Incoming T) (lower : Piece M T) (new : Part M) : Type 0 where
    pub there : Station M
    pub is : station_of part.tree (edge_view part.root) at ≡ Some there
    pub below : Part M
    pub shut : IsShutUnless b (is_live there.state) lower.part below
    pub remaining : List (Signal T)
    pub all : received_signals last.inlet.down ++ remaining ≡ sent_signals lower.up
    pub put : IsPutBack b crossing part at (hub_of last) remaining below new

  -- so it did as it was after its ending
  pub record IsJoinedEnded (b : Machine M T) (crossing : CrossingNodes M T) (part : Part M) (at : ℕ) (last : Incoming T) (lower : Piece M T) (new : Part M) : Type 0 where
    pub there : Station M
    pub is : station_of part.tree (edge_view part.root) at ≡ Some there
    pub below : Part M
    pub shut : IsShutUnless b (is_live there.state) lower.part below
    pub remaining : List (Signal T)
    pub all : received_signals last.inlet.down ++ remaining ≡ sent_signals lower.up
    pub put : b.crosses below.tree.machine ≡ false → (can_rejoin_ended b crossing part at below.tree.machine [] ≡ true) × (new ≡ joined_ended crossing part at below [])

  -- the piece sends where the upper half did, over the same root edge, and but for the last all links that came into that come into it
  pub record IsJoinedBy (upper p : Piece M T) : Type 0 where
    pub last : Incoming T
    pub ins : upper.inlets.items ≡ p.inlets.items ++ last ∷ []
    pub link : p.link ≡ upper.link
    pub up : p.up ≡ upper.up
    pub root : p.part.root ≡ upper.part.root
