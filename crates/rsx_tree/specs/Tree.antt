-- One tree of nodes: what still comes out of it, what it recorded, and its moves.
use Rattle.std.specs.Prelude.{◌≡◌, ◌⊎◌, ℕ, ◌+◌, Bool, false, ◌&&◌, nat_eq, nat_le, if◌then◌else◌, ◌-◌, List, [], ◌∷◌, length, Option, Some, None, option_map, slice_get}
use Rattle.rsx_sources.specs.Prelude.{Meaning, Allocates, CountsOut, notes_then, unchosen, LetsGo, Stream, signal_then, Note, Signal, front_of}
use Rattle.rsx_sources.specs.declared.machine.Front.{Front}
use Rattle.rsx_sources.specs.declared.machine.Machine.{Ghosts as Machine}
use Rattle.rsx_tree.specs.declared.edge.Edge.{Edge}
use Rattle.rsx_tree.specs.declared.edge.EdgeState.TheVariants.{Live}
use Rattle.rsx_tree.specs.declared.inputs.Inputs.{Inputs, End, More'}
use Rattle.rsx_tree.specs.declared.node.Node.{Node}
use Rattle.rsx_tree.specs.Allocates.{IsAlike, IsNodeAlike}
use Rattle.rsx_tree.specs.Balance.{IsBalanced, IsBalancedAfter}
use Rattle.rsx_tree.specs.Changed.{Hold, IsChanged, IsReadyBy, IsReceivedOver, IsSentOver, noting_of}
use Rattle.rsx_tree.specs.Edges.{EdgeView, asked_up_to, changed_at, closed_if}
use Rattle.rsx_tree.specs.Inputs.{Place, place, size, is_own, closed_row_if, comes_in, out_of, notes_of, edges as edges_in, can_ask_in, can_send_in, wanted_at, send_allocates_in, sent_edges, with_edge_at, IsUnchosen as IsUnchosenIn}

-- what still comes out of the tree whose root has the number `at`, where `hubs` is what is still published at each hub and
-- `further` what each node of the whole tree still chooses; nothing where those choices don't fit
abbrev pub comes_out : {M T : Type 0} → Machine M T → Meaning T → List (Stream T) → List Note → Node M → ℕ → Option (Stream T)
comes_out b m hubs further t at = out_of b m hubs t.machine (comes_in b m hubs further t.inputs (at + 1)) (slice_get further at)

-- what the nodes recorded, in pre-order
abbrev pub notes : {M T : Type 0} → Machine M T → Node M → List Note
notes b t = b.recorded t.machine ∷ notes_of b t.inputs

-- the edges below the root, in pre-order
abbrev pub edges : {M : Type 0} → Node M → List EdgeView
edges t = edges_in t.inputs

-- the signal that the root of a tree offers
abbrev pub offers : {M T : Type 0} → Machine M T → Meaning T → Node M → Option (Signal T)
offers b m t = b.waiting m t.machine

-- the second tree is the first without the signal that its root offered
abbrev pub popped : {M T : Type 0} → Machine M T → Node M → Signal T → Node M → Type 0
popped b old s new = b.popped old.machine s new.machine × (old.inputs ≡ new.inputs)

-- no edge is live
abbrev pub NoneLive : List EdgeView → Type 0
NoneLive [] = Unit {0}
NoneLive (e ∷ es) = (e.state ≡ Live → ⊥) × NoneLive es

-- no edge below the root is live
abbrev pub IsAllClosed : {M : Type 0} → Node M → Type 0
IsAllClosed t = NoneLive (edges t)

-- nothing more is chosen at any node of the tree whose root has the number `at`
abbrev pub IsUnchosen : {M T : Type 0} → Machine M T → List Note → Node M → ℕ → Type 0
IsUnchosen b further t at = (slice_get further at ≡ Some (unchosen (b.recorded t.machine))) × IsUnchosenIn b further t.inputs (at + 1)

-- what still comes out and what was recorded stay
pub record IsKept {M T : Type 0} (b : Machine M T) (m : Meaning T) (old new : Node M) : Type 0 where
  pub value : (hubs : List (Stream T)) (further : List Note) (at : ℕ) → comes_out b m hubs further new at ≡ comes_out b m hubs further old at
  pub notes : notes b new ≡ notes b old

-- the signal came out, and then the rest comes out of the second tree; where the root recorded it, that choice comes first
pub record IsLetGo {M T : Type 0} (b : Machine M T) (m : Meaning T) (old : Node M) (s : Signal T) (new : Node M) : Type 0 where
  pub offered : offers b m old ≡ Some s
  pub popped : popped b old s new
  -- the signal came out of the root, which recorded it where there is a note, whatever comes in below it, and the root's calls may
  -- allocate as before
  pub note : Option Note
  -- what was recorded is what the root said, and of an ending nothing; that nothing was is left open also of an item, for one that goes
  -- through the root in one go
  pub noting : (note ≡ noting_of (b.popping old.machine) s) ⊎ (note ≡ None)
  pub ready : M
  pub noted : IsReadyBy b m note old.machine ready
  pub lets_go : LetsGo (b.comes_out m) ready s new.machine
  pub recorded : b.recorded new.machine ≡ b.recorded ready
  pub node : IsNodeAlike b old.machine new.machine
  -- an item counts as sent by it
  pub counts : CountsOut b.counted b.ended b.done old.machine (Some s) new.machine
  -- what was recorded stands in front of what is still chosen, and behind what was recorded before
  pub choose : List Note → List Note
  pub count : (further : List Note) → length (choose further) ≡ length further
  pub value : (hubs : List (Stream T)) (further : List Note) → comes_out b m hubs (choose further) old 0 ≡ option_map (signal_then s) (comes_out b m hubs further new 0)
  pub nodes : length (notes b new) ≡ length (notes b old)
  pub notes : (further : List Note) → notes_then (notes b new) further ≡ notes_then (notes b old) (choose further)
  pub balance : (sent : ℕ) → IsBalanced b old sent → IsBalancedAfter b s new sent
  pub alike : IsAlike b old new

-- what was popped is what the root offered; where it offered nothing, the tree is as it was
abbrev pub IsPopped : {M T : Type 0} → Machine M T → Meaning T → Node M → Option (Signal T) → Node M → Type 0
IsPopped b m old None new = (offers b m old ≡ None) × (new ≡ old)
IsPopped b m old (Some s) new = IsLetGo b m old s new

-- ---- moves

-- the edge `at` below the root; `asked` and `sent` are those of the root's own edge
abbrev pub place_of : {M : Type 0} → Node M → ℕ → ℕ → ℕ → Option (Place M)
place_of t at asked sent = place t.machine 0 asked sent t.inputs at

-- the edge is live, and its receiver wants more than it asked for
abbrev pub can_ask : {M T : Type 0} → Machine M T → Node M → ℕ → ℕ → ℕ → Bool
can_ask b t at asked sent = can_ask_in b (place_of t at asked sent)

-- a signal can go over the edge, and its receiver can take it
abbrev pub can_send : {M T : Type 0} → Machine M T → Meaning T → Node M → ℕ → Bool
can_send b m t at = can_send_in b m (place_of t at 0 0)

-- whether a Send over the edge may allocate
abbrev pub send_allocates : {M T : Type 0} → Machine M T → Allocates → Node M → ℕ → Bool
send_allocates b a t at = send_allocates_in b a (place_of t at 0 0)

-- whether the receiver of the edge `at` has put out its ending
abbrev pub ended_in : {M T : Type 0} → Machine M T → M → Inputs M → ℕ → Bool
ended_in b r End at = false
ended_in b r (More' e n p below q beside) at =
    if nat_eq at 0 then b.ended r else (if nat_le at (size below) then ended_in b n below (at - 1) else ended_in b r beside (at - 1 - size below))

abbrev pub ended_at : {M T : Type 0} → Machine M T → Node M → ℕ → Bool
ended_at b t at = ended_in b t.machine t.inputs at

-- the tree, where the edge `at` below its root is this one; each node, and each other edge, is as it was
abbrev pub with_edge : {M : Type 0} → ℕ → Edge → Node M → Node M
with_edge at edge t = record t { inputs = with_edge_at at edge t.inputs }

-- an Ask: what was asked of the edge rose to what its receiver wants, and no other edge, and no node, changed
pub record IsAskedAt {M T : Type 0} (b : Machine M T) (old : Node M) (at asked sent : ℕ) (new : Node M) : Type 0 where
  pub there : Place M
  pub is : place_of old at asked sent ≡ Some there
  pub edges : edges new ≡ changed_at (asked_up_to (wanted_at b there)) at (edges old)
  pub edge : Edge
  pub tree : new ≡ with_edge at edge old

-- a Send: the offered signal went over the edge, and where its receiver ended by it, all edges below that are closed; no other
-- edge, and no node but the two at its ends, changed
pub record IsSentAt {M T : Type 0} (b : Machine M T) (m : Meaning T) (old : Node M) (at : ℕ) (new : Node M) : Type 0 where
  pub there : Place M
  pub front : Front
  pub is : place_of old at 0 0 ≡ Some there
  pub offered : option_map front_of (b.waiting m there.sender) ≡ Some front
  pub edges : edges new ≡ closed_if (ended_at b new at && is_own old.inputs at) (sent_edges (ended_at b new at) front old.inputs at)
  pub mid : Inputs M
  pub step : IsChanged (IsSentOver b m) b.ended old.machine 0 0 0 old.inputs at new.machine mid
  pub shut : new.inputs ≡ closed_row_if (b.ended new.machine && is_own old.inputs at) mid

-- what a Send makes of its receiver, where that is a call of its own: no more than the receiver says of the signal that it took in
pub record IsReceivedAt {M T : Type 0} (b : Machine M T) (m : Meaning T) (old : Node M) (at : ℕ) (new : Node M) : Type 0 where
  pub mid : Inputs M
  pub step : IsChanged (IsReceivedOver b m) b.ended old.machine 0 0 0 old.inputs at new.machine mid
  pub shut : new.inputs ≡ closed_row_if (b.ended new.machine && is_own old.inputs at) mid

-- a tree became an input, over an edge over which nothing went yet
pub record IsJoined {M : Type 0} (t : Node M) (beside row : Inputs M) : Type 0 where
  pub e : Edge
  pub p : Hold
  pub q : Hold
  pub row_is : row ≡ More' e t.machine p t.inputs q beside
  pub asked : e.demand.asked ≡ 0
  pub sent : e.demand.sent ≡ 0
  pub live : e.state ≡ Live
