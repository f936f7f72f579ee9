-- When a piece is at rest, and what its single steps say of that.
use Rattle.std.specs.Prelude.{◌≡◌, ◌≢◌, ◌⊎◌, ⊤, ℕ, ◌<◌, ◌≤◌, Bool, true, false, List, ◌∷◌, ◌++◌, map, Option, Some, None, slice_get, slice_set}
use Rattle.rsx_sources.specs.Prelude.{Meaning}
use Rattle.rsx_sources.specs.declared.machine.Machine.{Ghosts as Machine}
use Rattle.rsx_tree.specs.declared.edge.Edge.{Edge}
use Rattle.rsx_tree.specs.Edges.{is_live}
use Rattle.rsx_pipe.specs.Part.{Part}
use Rattle.rsx_pipe.specs.Published.{has_room_for, reader_edge, readers}
use Rattle.rsx_link.specs.Ends.{Waits, asked_total, cancels_of, queued, sent_signals, up_steps}
use Rattle.rsx_link.specs.declared.view.Step.{Step as LinkStep}
use Rattle.rsx_link.specs.declared.view.Step.TheVariants.{SeeAsked, SeeFlags}
use Rattle.rsx_region.specs.Moves.{IsIdle}
use Rattle.rsx_region.specs.declared.inlet.Inlet.{Inlet}
use Rattle.rsx_region.specs.Pieces.{Each, came_of}
use Rattle.rsx_region.specs.Steps.{HasTried, SameInlets}
use Rattle.rsx_region.specs.declared.piece.Incoming.{Incoming}
use Rattle.rsx_region.specs.declared.piece.Piece.{Piece}

-- this holds of each that stands before the place
abbrev pub EachBefore : {X : Type 0} → ℕ → (X → Type 0) → List X → Type 0
EachBefore {X} at P xs = (k : ℕ) (x : X) → k < at → slice_get xs k ≡ Some x → P x

module _ {T : Type 0} where
  abbrev pub IsPassedOver : Bool → Edge → Inlet T → Type 0
  IsPassedOver true e i = e.demand.asked ≤ asked_total i.down
  IsPassedOver false e i = 0 < cancels_of i.closer

  -- what was asked of the reader's edge was asked of the link; where that edge isn't live, the link was cancelled
  abbrev pub IsPassedOn : Option Edge → Inlet T → Type 0
  IsPassedOn None i = ⊤
  IsPassedOn (Some e) i = IsPassedOver (is_live e.state) e i

module _ {M T : Type 0} where
  -- no node of the part reads the link, or more than one does, or it has no room for an item, or no signal can be taken
  abbrev pub CanNotPop : Machine M T → Part M → Incoming T → Type 0
  CanNotPop b part i = (readers b i.inlet.hub part ≢ 1) ⊎ ((has_room_for b i.inlet.hub part ≡ false) ⊎ Waits i.inlet.down (queued i.inlet.down))

  -- all that was asked of the readers' edges was passed on
  abbrev pub AllPassedOn : Machine M T → Piece M T → Type 0
  AllPassedOn b p = Each (λ (i : Incoming T). IsPassedOn (reader_edge b i.inlet.hub p.part) i.inlet) p.inlets.items

  -- No move is enabled, as far as its ends know, no signal can be taken from a link, and all that was asked was passed on.
  pub record IsAtRest (b : Machine M T) (m : Meaning T) (p : Piece M T) : Type 0 where
    pub idle : IsIdle b m p.part p.up
    pub taken : Each (CanNotPop b p.part) p.inlets.items
    pub asked : AllPassedOn b p

  -- the link at the place was asked, and of the part and the other links nothing changed
  pub record HasPassedOn (b : Machine M T) (at : ℕ) (old new : Piece M T) : Type 0 where
    pub is : Incoming T
    pub put : new.inlets.items ≡ slice_set old.inlets.items at is
    pub part : new.part ≡ old.part
    pub up : new.up ≡ old.up
    pub asked : IsPassedOn (reader_edge b is.inlet.hub new.part) is.inlet

  -- no signal could be taken from the link at the place
  pub record HasLeftOne (b : Machine M T) (at : ℕ) (old new : Piece M T) : Type 0 where
    pub is : Incoming T
    pub put : new.inlets.items ≡ slice_set old.inlets.items at is
    pub tried : HasTried old new
    pub left : CanNotPop b new.part is

  -- no signal could be taken from any link
  pub record HasLeftAll (b : Machine M T) (old new : Piece M T) : Type 0 where
    pub tried : HasTried old new
    pub left : Each (CanNotPop b new.part) new.inlets.items

  -- no move was enabled
  pub record HasStayed (b : Machine M T) (m : Meaning T) (old new : Piece M T) : Type 0 where
    pub tried : HasTried old new
    pub others : SameInlets old new
    pub idle : IsIdle b m new.part new.up

  -- no signal could be taken from any link before the place
  pub record HasLeftBefore (b : Machine M T) (at : ℕ) (old new : Piece M T) : Type 0 where
    pub tried : HasTried old new
    pub left : EachBefore at (CanNotPop b new.part) new.inlets.items

  -- the link that goes out was looked at since then, and this was found last
  pub record HasSeen (old new : Piece M T) : Type 0 where
    pub flags : ℕ
    pub total : ℕ
    pub since : List LinkStep
    pub steps : up_steps new.up ≡ SeeFlags flags ∷ SeeAsked total ∷ (since ++ up_steps old.up)

  -- nothing went out or came in, and the part is as it was
  pub record HasRested (old new : Piece M T) : Type 0 where
    pub part : new.part ≡ old.part
    pub sent : sent_signals new.up ≡ sent_signals old.up
    pub came : map came_of new.inlets.items ≡ map came_of old.inlets.items
