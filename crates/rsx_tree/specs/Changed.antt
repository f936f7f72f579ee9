-- How a move changes a row of inputs: one edge and the nodes at its ends, and nothing else.
use Rattle.std.specs.Prelude.{◌≡◌, ◌⊎◌, Box, ℕ, ◌+◌, ◌-◌, ◌<◌, ◌≤◌, Bool, true, false, ◌&&◌, List, ◌++◌, length, Option, Some, None, option_map}
use Rattle.std.specs.declared.alloc.Global.{Global}
use Rattle.rsx_sources.specs.Prelude.{Meaning, Stream, Note, Signal, Next, Complete, Error, CountsIn, CountsOut, IsReady, LetsGo, TakesIn, front_of, IsNotMade}
use Rattle.rsx_sources.specs.declared.machine.Machine.{Ghosts as Machine}
use Rattle.rsx_sources.specs.declared.machine.NotMade.{NotMade}
use Rattle.rsx_tree.specs.declared.edge.Edge.{Edge}
use Rattle.rsx_tree.specs.Allocates.{IsNodeAlike}
use Rattle.rsx_tree.specs.declared.inputs.Inputs.{Inputs, End, More'}
use Rattle.rsx_tree.specs.Edges.{edge_view, asked_up_to, passed}
use Rattle.rsx_tree.specs.Inputs.{size, is_own, place, closed_row_if, can_ask_over, can_send_in, can_send_over, comes_in, through}

-- a place in memory, without what it holds
abbrev pub Hold : Type 0
Hold = Box (Unit {0}) Global

-- what a move does to the receiver of an edge, the edge, and its sender
abbrev pub Change : Type 0 → Type 1
Change M = M → ℕ → ℕ → ℕ → Edge → M → M → Edge → M → Type 0

-- an Ask: what was asked rose to what the receiver wants, and nothing else changed
pub record IsAskedOver {M T : Type 0} (b : Machine M T) (r : M) (i asked sent : ℕ) (e : Edge) (n r' : M) (e' : Edge) (n' : M) : Type 0 where
  pub can : can_ask_over b r i asked sent (edge_view e) n ≡ true
  pub edge : edge_view e' ≡ asked_up_to (b.wanted r i asked sent) (edge_view e)
  pub receiver : r' ≡ r
  pub sender : n' ≡ n

-- a node as it stands once it recorded the note that goes with a signal out of it; with no note it is as it was
abbrev pub IsReadyBy : {M T : Type 0} → Machine M T → Meaning T → Option Note → M → M → Type 0
IsReadyBy b m None n ready = ready ≡ n
IsReadyBy b m (Some k) n ready = IsReady (b.comes_out m) b.recorded b.ended n k ready

-- the note that goes with a signal, where this one goes with an item: none goes with an ending
abbrev pub noting_of : {T : Type 0} → Option Note → Signal T → Option Note
noting_of said (Next x) = said
noting_of said Complete = None
noting_of said (Error c) = None

-- a Send: the signal that the sender offered came out of it, which recorded it where there is a note, went over the edge, and came into
-- the receiver
pub record IsSentOver {M T : Type 0} (b : Machine M T) (m : Meaning T) (r : M) (i asked sent : ℕ) (e : Edge) (n r' : M) (e' : Edge) (n' : M) : Type 0 where
  pub signal : Signal T
  pub can : can_send_over b m r i (edge_view e) n ≡ true
  pub offered : b.waiting m n ≡ Some signal
  pub popped : b.popped n signal n'
  pub note : Option Note
  -- what was recorded is what the sender said; that nothing was is left open, for an item that goes through the sender in one go
  pub noting : (note ≡ noting_of (b.popping n) signal) ⊎ (note ≡ None)
  pub ready : M
  pub noted : IsReadyBy b m note n ready
  pub gone : LetsGo (b.comes_out m) ready signal n'
  pub taken : TakesIn (b.comes_out m) r i signal r'
  pub edge : edge_view e' ≡ passed (edge_view e) (front_of signal)
  pub receiver : b.recorded r' ≡ b.recorded r
  pub sender : b.recorded n' ≡ b.recorded ready
  pub counts_in : CountsIn b.counted b.ended b.done r i signal r'
  pub counts_out : CountsOut b.counted b.ended b.done n (Some signal) n'
  pub alike_in : IsNodeAlike b r r'
  pub alike_out : IsNodeAlike b n n'

-- what a Send makes of the receiver: the signal that the sender offered was taken in, and no more was done than the receiver says of that.
-- Runs of moves, in which an item goes through a node in one go, don't say so much.
pub record IsReceivedBy {M T : Type 0} (b : Machine M T) (m : Meaning T) (r : M) (i : ℕ) (n r' : M) : Type 0 where
  pub signal : Signal T
  pub offered : b.waiting m n ≡ Some signal
  pub took : b.took r i signal r'

-- the same of a Send over an edge, whatever is asked of the receiver and was sent by it
abbrev pub IsReceivedOver : {M T : Type 0} → Machine M T → Meaning T → M → ℕ → ℕ → ℕ → Edge → M → M → Edge → M → Type 0
IsReceivedOver b m r i asked sent e n r' e' n' = IsReceivedBy b m r i n r'

-- an Ask of the receiver over the edge of this sender, which changes neither of them
abbrev pub IsAskedBy : {M T : Type 0} → Machine M T → M → ℕ → ℕ → ℕ → M → Edge → Edge → Type 0
IsAskedBy b r i asked sent n e e' = IsAskedOver b r i asked sent e n r e' n

-- a Send over an edge, whatever is asked of the receiver and was sent by it
abbrev pub IsCarried : {M T : Type 0} → Machine M T → Meaning T → M → ℕ → Edge → M → M → Edge → M → Type 0
IsCarried b m r i e n r' e' n' = (asked sent : ℕ) → IsSentOver b m r i asked sent e n r' e' n'

-- the first edge of the row changed
pub record IsHere {M : Type 0} (P : Change M) (r : M) (i asked sent : ℕ) (e : Edge) (n : M) (p : Hold) (below : Inputs M) (q : Hold) (beside : Inputs M) (at : ℕ) (r' : M) (new : Inputs M) : Type 0 where
  pub e' : Edge
  pub n' : M
  pub at_is : at ≡ 0
  pub made : P r i asked sent e n r' e' n'
  pub new_is : new ≡ More' e' n' p below q beside

-- an edge below the first node changed; where that node ended by it, all below it is closed
pub record IsBelow {M : Type 0} (ends : M → Bool) (Rec : M → Inputs M → Type 0) (r : M) (e : Edge) (p : Hold) (below : Inputs M) (q : Hold) (beside : Inputs M) (at : ℕ) (r' : M) (new : Inputs M) : Type 0 where
  pub n' : M
  pub mid : Inputs M
  pub above : 0 < at
  pub within : at ≤ size below
  pub receiver : r' ≡ r
  pub made : Rec n' mid
  pub new_is : new ≡ More' e n' p (closed_row_if (ends n' && is_own below (at - 1)) mid) q beside

-- an edge of the inputs beside the first, or below them, changed
pub record IsBeside {M : Type 0} (Rec : Inputs M → Type 0) (e : Edge) (n : M) (p : Hold) (below : Inputs M) (q : Hold) (at : ℕ) (new : Inputs M) : Type 0 where
  pub beside' : Inputs M
  pub beyond : size below < at
  pub made : Rec beside'
  pub new_is : new ≡ More' e n p below q beside'

-- the edge `at` of a row changed, where the row's first edge is input `i` of the receiver `r`; a node that ended by it closed
-- all its inputs, except for the receiver `r`
abbrev pub IsChanged : {M : Type 0} → Change M → (M → Bool) → M → ℕ → ℕ → ℕ → Inputs M → ℕ → M → Inputs M → Type 0
IsChanged P ends r i asked sent End at r' new = ⊥
IsChanged P ends r i asked sent (More' e n p below q beside) at r' new =
    IsHere P r i asked sent e n p below q beside at r' new
    ⊎ (IsBelow ends (λ n' mid. IsChanged P ends n 0 e.demand.asked e.demand.sent below (at - 1) n' mid) r e p below q beside at r' new
    ⊎ IsBeside (λ beside'. IsChanged P ends r (i + 1) asked sent beside (at - 1 - size below) r' beside') e n p below q at new)

-- an Ask over the edge `at` of a row
abbrev pub IsAskedIn : {M T : Type 0} → Machine M T → M → ℕ → ℕ → ℕ → Inputs M → ℕ → M → Inputs M → Type 0
IsAskedIn b r i asked sent t at r' t' = IsChanged (IsAskedOver b) (λ n. false) r i asked sent t at r' t'

-- a Send over it, whatever is asked of the row's receiver and was sent by it
abbrev pub IsSentIn : {M T : Type 0} → Machine M T → Meaning T → M → ℕ → Inputs M → ℕ → M → Inputs M → Type 0
IsSentIn b m r i t at r' t' = (asked sent : ℕ) → IsChanged (IsSentOver b m) b.ended r i asked sent t at r' t'

-- what a Send over it makes of its receiver
abbrev pub IsReceivedIn : {M T : Type 0} → Machine M T → Meaning T → M → ℕ → Inputs M → ℕ → M → Inputs M → Type 0
IsReceivedIn b m r i t at r' t' = (asked sent : ℕ) → IsChanged (IsReceivedOver b m) b.ended r i asked sent t at r' t'

-- a Send over it is refused exactly where it isn't enabled, but for want of memory
abbrev pub IsNotSentIn : {M T : Type 0} → Machine M T → Meaning T → M → ℕ → Inputs M → ℕ → NotMade → Type 0
IsNotSentIn b m r i t at e = (asked sent : ℕ) → IsNotMade (can_send_in b m (place r i asked sent t at)) e

-- ---- what a change keeps

-- what comes out of the receiver over this row stays, where the row's first edge is input `i`, whatever comes in before it
abbrev pub IsPassedOn : {M T : Type 0} → Machine M T → Meaning T → ℕ → M → Inputs M → M → Inputs M → Type 0
IsPassedOn {M} {T} b m i r t r' t' =
    (before : List (Stream T)) → length before ≡ i → (hubs : List (Stream T)) (further : List Note) (pos : ℕ) (k : Note) →
    through b m hubs r' (option_map (λ vs. before ++ vs) (comes_in b m hubs further t' pos)) k ≡ through b m hubs r (option_map (λ vs. before ++ vs) (comes_in b m hubs further t pos)) k
