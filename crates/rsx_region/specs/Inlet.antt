-- What a piece has of a link that comes in.
use Rattle.std.specs.Prelude.{◌≡◌, ◌⊎◌, ⊤, ℕ, zero, suc, ◌<◌, ◌≤◌, true, false, List, [], ◌∷◌, Option, Some, None, slice_get}
use Rattle.std.specs.List.{AllByRecursion}
use Rattle.rsx_sources.specs.Prelude.{Stream, Reading, reads_hub}
use Rattle.rsx_sources.specs.declared.machine.Machine.{Ghosts as Machine}
use Rattle.rsx_tree.specs.declared.edge.Edge.{Edge}
use Rattle.rsx_tree.specs.Edges.{is_live}
use Rattle.rsx_tree.specs.Reads.{readings}
use Rattle.rsx_pipe.specs.Part.{Part}
use Rattle.rsx_pipe.specs.Published.{reader_edge}
use Rattle.rsx_link.specs.Ends.{IsCancelSeatOf, IsDownOf, asked_total, cancels_of, carried_down, received_signals}
use Rattle.rsx_link.specs.Signals.{items_in}
use Rattle.rsx_link.specs.declared.cancel.CancelSeat.{CancelSeat}
use Rattle.rsx_link.specs.declared.down.Down.{Down}
use Rattle.rsx_link.specs.declared.link.Link.{Link}
use Rattle.rsx_rooted.specs.Local.{stream_of}
use Rattle.rsx_region.specs.declared.inlet.Inlet.{Inlet}

-- the list with this as its element n, where it has one
abbrev pub replaced_at : {A : Type 0} → ℕ → A → List A → List A
replaced_at n a [] = []
replaced_at zero a (x ∷ xs) = a ∷ xs
replaced_at (suc n) a (x ∷ xs) = x ∷ replaced_at n a xs

module _ {T : Type 0} where
  -- its end and its seat are those of this link
  abbrev pub IsInletOf : Link T → Inlet T → Type 0
  IsInletOf l i = IsDownOf l i.down × IsCancelSeatOf l i.closer

  -- what came over the link is what stands among what was taken in
  abbrev pub HasCome : List (Stream T) → Inlet T → Type 0
  HasCome taken i = slice_get taken i.hub ≡ Some (stream_of (received_signals i.down))

  -- what was taken in, where this came over the link
  abbrev pub with_come : Inlet T → List (Stream T) → List (Stream T)
  with_come i taken = replaced_at i.hub (stream_of (received_signals i.down)) taken

-- none of these nodes reads the hub
abbrev pub NoneReads : ℕ → List (Option Reading) → Type 0
NoneReads h [] = ⊤
NoneReads h (r ∷ rs) = (reads_hub h r ≡ false) × NoneReads h rs

-- one of them does, or none
abbrev pub OneReads : ℕ → List (Option Reading) → Type 0
OneReads h [] = ⊤
OneReads h (r ∷ rs) = ((reads_hub h r ≡ true) × NoneReads h rs) ⊎ ((reads_hub h r ≡ false) × OneReads h rs)

-- where it reads the hub, it took in so many items of it
abbrev pub IsReachedAt : ℕ → ℕ → Option Reading → Type 0
IsReachedAt h count None = ⊤
IsReachedAt h count (Some r) = r.hub ≡ h → r.reached ≡ count

-- so it is of each of these
abbrev pub HaveReached : ℕ → ℕ → List (Option Reading) → Type 0
HaveReached h count rs = AllByRecursion (IsReachedAt h count) rs

-- where it reads the hub, it missed nothing of it, and so many items were sent before
abbrev pub IsBegunAt : ℕ → ℕ → Option Reading → Type 0
IsBegunAt h before None = ⊤
IsBegunAt h before (Some r) = r.hub ≡ h → (r.missed ≡ 0) × (r.before ≡ before)

-- so it is of each of these
abbrev pub HaveBegun : ℕ → ℕ → List (Option Reading) → Type 0
HaveBegun h before rs = AllByRecursion (IsBegunAt h before) rs

-- A link that comes in, of which the part's reader has this number, the piece this end, and this seat.
pub record LinkStands {M T : Type 0} (b : Machine M T) (taken : List (Stream T)) (part : Part M) (hub : ℕ) (down : Down T) (closer : CancelSeat) : Type 0 where
  -- what came over it stands among what was taken in
  pub came : slice_get taken hub ≡ Some (stream_of (received_signals down))
  -- one node reads it, or none any more
  pub one : OneReads hub (readings b part.tree)
  -- and that one took in as many items as came over it
  pub reached : HaveReached hub (items_in (received_signals down)) (readings b part.tree)
  -- its counts begin with what went over the edge before the link was made
  pub began : HaveBegun hub (carried_down down) (readings b part.tree)
  -- no more was asked of it than of the reader's edge, and it was cancelled only where that isn't live
  pub asked : (e : Edge) → reader_edge b hub part ≡ Some e → asked_total down ≤ e.demand.asked
  pub cancelled : (e : Edge) → reader_edge b hub part ≡ Some e → 0 < cancels_of closer → is_live e.state ≡ false

abbrev pub InletStands : {M T : Type 0} → Machine M T → List (Stream T) → Part M → Inlet T → Type 0
InletStands b taken part i = LinkStands b taken part i.hub i.down i.closer
