-- What a subscription stands for, its enabled moves, and what a move changes.
use Rattle.rsx_sources.specs.declared.machine.Machine.{Ghosts as Machine}
use Rattle.rsx_rooted.specs.declared.nodes.Nodes.{Ghosts as Nodes}
use Rattle.std.specs.Prelude.{◌≡◌, ⊤, ℕ, ◌<◌, Bool, true, false, ◌&&◌, ◌||◌, nat_eq, List, [], ◌∷◌, ◌++◌, length, map, Option, Some, None, option_map}
use Rattle.rsx_sources.specs.Prelude.{Meaning, Allocates, unchosen, Stream, signals_then, ended_by, Note, SubId, Sub, Feed, Move, Ask, Send, Take, Pick, Row, Accept, Open as NotEnded, Signal}
use Rattle.rsx_tree.specs.Residual.{IsTreeBehind}
pub use Rattle.rsx_pipe.specs.Output.{values_then}
use Rattle.rsx_model.specs.Check.{refusal}
use Rattle.rsx_model.specs.Shape.{nodes, leaves}
use Rattle.rsx_pipe.specs.Part.{PartStands, all_edges}
use Rattle.rsx_pipe.specs.Part as Part
use Rattle.rsx_pipe.specs.Crossing.{route_below}
use Rattle.rsx_pipe.specs.Tree.{comes_out, notes_of, IsAllClosed}
use Rattle.rsx_tree.specs.declared.edge.EdgeState.TheVariants.{Live, Closed}
use Rattle.rsx_tree.specs.declared.look.NodeMove.{NodeMove}
use Rattle.rsx_tree.specs.declared.look.NodeMove.TheVariants.{Ask as NodeAsk, Send as NodeSend, Pick as NodePick, Row as NodeRow}
use Rattle.rsx_subscriber.specs.declared.state.SubscriptionState.{SubscriptionState}
use Rattle.rsx_subscriber.specs.declared.state.SubscriptionState.TheVariants.{Open, Ended, Cancelled, Refused}
use Rattle.rsx_subscriber.specs.declared.subscription.Subscription.{Subscription}
use Rattle.rsx_subscription.specs.Table.{cell_of, state_after, asked_after, sent_after}
use Rattle.rsx_subscriber.specs.Standing.{standing, live_in, delivers, input_of}
use Rattle.rsx_subscriber.specs.Moves.{node_move, node_of}
use Rattle.rsx_subscriber.specs.Past.{Past, IsLive, items_in, IsUnended, IsOrderly, IsPrefixOf}

-- the expression of a subscriber, evaluated from scratch over the hubs' values, under its joins and these notes, with nothing chosen
-- behind the point where the rows of a combineLatest stop
abbrev pub evaluated : {T : Type 0} → Meaning T → List (Stream T) → Past T → List Note → Option (Stream T)
evaluated m hubs past notes = Part.evaluated m hubs past.joins past.expression notes

-- what comes out of a subscription, its queue and then its tree, where each node still chooses `further`
abbrev pub owed_from : {M T : Type 0} → Machine M T → Meaning T → List (Stream T) → List Note → Subscription M T → Option (Stream T)
owed_from mc m hubs further sub = option_map (signals_then sub.queue) (comes_out mc m hubs further sub.part.tree 0)

-- the same, where nothing more is chosen
abbrev pub owed_unchosen : {M T : Type 0} → Machine M T → Meaning T → List (Stream T) → Subscription M T → Option (Stream T)
owed_unchosen mc m hubs sub = owed_from mc m hubs (map unchosen (notes_of mc sub.part.tree)) sub

-- how a subscription stands
abbrev pub standing_of : {M T : Type 0} → Subscription M T → SubscriptionState
standing_of sub = standing sub.state sub.live

-- a subscription stands for its past, where `published` is what the hubs took in and handed to their readers, and its part has
-- put out `output`
pub record Stands {M T : Type 0} (mc : Machine M T) (m : Meaning T) (published : List (Stream T)) (sub : Subscription M T) (past : Past T) : Type 0 where
  pub state : standing_of sub ≡ past.state
  pub live : sub.live ≡ live_in (standing_of sub)
  -- what the part has put out, followed by what still comes out of it, is the expression evaluated from scratch
  pub output : List (Signal T)
  pub part : PartStands mc m published sub.part past.expression past.joins output
  -- live: what was received, and then what is queued, is all that was put out
  pub held : IsLive (standing_of sub) → past.received ++ sub.queue ≡ output
  -- not live: the items received begin those put out
  pub begun : (IsLive (standing_of sub) → ⊥) → IsPrefixOf (items_in past.received) (items_in output)
  -- nothing follows an ending
  pub orderly : IsOrderly past.received
  pub waits : standing_of sub ≡ Open → IsUnended past.received
  pub got : standing_of sub ≡ Ended → IsUnended past.received → ⊥
  -- what was requested is asked of the part, and the items received are counted as delivered
  pub asked : sub.part.root.demand.asked ≡ past.asked
  pub requested : sub.demand.asked ≡ past.asked
  pub delivered : sub.demand.sent ≡ length (items_in past.received)
  -- the root edge of a live subscriber isn't closed
  pub unclosed : IsLive (standing_of sub) → sub.part.root.state ≡ Closed → ⊥
  -- the expression isn't refused, its part has an edge for each of its nodes, and there is a join for each hub leaf
  pub admitted : refusal (length published) past.expression ≡ None
  pub shape : length (all_edges sub.part) ≡ nodes past.expression
  pub joined : length past.joins ≡ leaves past.expression
  -- not live: the tree is closed, and nothing is queued
  pub closed : (IsLive (standing_of sub) → ⊥) → IsAllClosed sub.part.tree × (sub.part.root.state ≡ Live → ⊥) × (sub.queue ≡ [])

-- of each past for which a subscription stood before, it stands now for that past with this change
abbrev pub StandsAfter : {M T : Type 0} → Machine M T → Meaning T → (Past T → Past T) → Subscription M T → Subscription M T → Type 0
StandsAfter {M} {T} mc m change old new =
    (published : List (Stream T)) (past : Past T) → Stands mc m published old past → Stands mc m published new (change past)

-- this is still owed to an open subscription, where `whole` are the hubs' whole values, of which just these inboxes stand behind
-- what its nodes took in, and nothing more is chosen
abbrev pub IsStillOwed : {M T : Type 0} → Machine M T → Meaning T → List (Stream T) → Subscription M T → Stream T → Type 0
IsStillOwed {M} {T} mc m inboxes sub v =
    (published whole : List (Stream T)) (past : Past T) → Stands mc m published sub past → standing_of sub ≡ Open → (sub.part.root.state ≡ Live → IsTreeBehind mc inboxes whole sub.part.tree) →
    owed_unchosen mc m whole sub ≡ Some v

-- ---- enabled moves

-- Ask: the root edge rises by requests alone
abbrev pub ask_enabled : {M T : Type 0} → Machine M T → Subscription M T → ℕ → Bool
ask_enabled mc sub at = Part.ask_enabled mc sub.part at

-- Send: over the root edge into its queue, or over an edge of the tree
abbrev pub send_enabled : {M T : Type 0} → Machine M T → Meaning T → Subscription M T → ℕ → Bool
send_enabled mc m sub at = Part.send_enabled mc m sub.part (Part.has_room sub.queue) at

-- Take: from the queue of the root edge, where the table delivers its front signal
abbrev pub take_enabled : {M T : Type 0} → Subscription M T → ℕ → Bool
take_enabled sub at = nat_eq at 0 && delivers sub.state sub.demand sub.queue

-- a move of the part is enabled
abbrev pub enabled_inside : {M T : Type 0} → Machine M T → Meaning T → Subscription M T → Option NodeMove → Bool
enabled_inside mc m sub None = false
enabled_inside mc m sub (Some e) = Part.move_enabled mc m sub.part (Part.has_room sub.queue) e

-- the move of the part that a move names; the queue of the root edge is the subscription's own
abbrev pub inner_move : {M T : Type 0} → Nodes M T → Subscription M T → Move → Option NodeMove
inner_move kd sub mv = node_move (route_below kd sub.part (node_of mv)) mv

abbrev pub move_enabled_in : {M T : Type 0} → Machine M T → Nodes M T → Meaning T → Subscription M T → Move → Bool
move_enabled_in mc kd m sub (Ask t n) = ask_enabled mc sub n.0
move_enabled_in mc kd m sub (Send t n) = enabled_inside mc m sub (inner_move kd sub (Send t n))
move_enabled_in mc kd m sub (Take t n) = take_enabled sub n.0 || enabled_inside mc m sub (inner_move kd sub (Take t n))
move_enabled_in mc kd m sub (Pick t n i) = enabled_inside mc m sub (inner_move kd sub (Pick t n i))
move_enabled_in mc kd m sub (Row t n) = enabled_inside mc m sub (inner_move kd sub (Row t n))
move_enabled_in mc kd m sub (Accept h) = false

-- whether it may allocate, where these of the caller's functions may
abbrev pub allocates_inside : {M T : Type 0} → Machine M T → Allocates → Subscription M T → Option NodeMove → Bool
allocates_inside mc a sub None = false
allocates_inside mc a sub (Some e) = Part.make_allocates mc a sub.part e

abbrev pub make_allocates : {M T : Type 0} → Machine M T → Nodes M T → Allocates → Subscription M T → Move → Bool
make_allocates mc kd a sub mv = allocates_inside mc a sub (inner_move kd sub mv)

-- ---- what the looks answer

-- this is what a subscriber is owed: while it is open, its expression's value is what it received followed by this; else
-- nothing
abbrev pub owes_in : {M T : Type 0} → Machine M T → Meaning T → List (Stream T) → Subscription M T → Past T → Stream T → SubscriptionState → Type 0
owes_in mc m published sub past v Open = evaluated m published past (notes_of mc sub.part.tree) ≡ Some (signals_then past.received v)
owes_in mc m published sub past v Ended = v ≡ ended_by NotEnded
owes_in mc m published sub past v Cancelled = v ≡ ended_by NotEnded
owes_in mc m published sub past v Refused = v ≡ ended_by NotEnded

-- ---- what a move changes

-- all but the part and its queue stays: where the subscription stands, and the subscriber's demand
pub record IsKeptBeside {M T : Type 0} (old new : Subscription M T) : Type 0 where
  pub state : new.state ≡ old.state
  pub live : new.live ≡ old.live
  pub demand : new.demand ≡ old.demand

-- an Ask: what was asked of this edge is what its receiver wants; no other edge, no node and nothing else changed
pub record IsAsk {M T : Type 0} (mc : Machine M T) (old : Subscription M T) (at : ℕ) (new : Subscription M T) : Type 0 where
  pub part : Part.IsAsk mc old.part at new.part
  pub queue : new.queue ≡ old.queue
  pub kept : IsKeptBeside old new

-- a Send: the offered signal went over this edge, from the root into the queue; where the receiver ended by it, all from
-- there on is closed
pub record IsSend {M T : Type 0} (mc : Machine M T) (m : Meaning T) (old : Subscription M T) (at : ℕ) (new : Subscription M T) : Type 0 where
  pub out : List (Signal T)
  pub edges : Part.IsSend mc m old.part at out new.part
  pub queue : new.queue ≡ old.queue ++ out
  pub kept : IsKeptBeside old new

-- a Pick: the choice stands behind what the node recorded; where the node ended by it, all below it is closed
pub record IsPicked {M T : Type 0} (mc : Machine M T) (old : Subscription M T) (at input : ℕ) (new : Subscription M T) : Type 0 where
  pub part : Part.IsPick mc old.part at input new.part
  pub queue : new.queue ≡ old.queue
  pub kept : IsKeptBeside old new

-- a Row: where the node ended by it, all below it is closed
pub record IsRowMade {M T : Type 0} (mc : Machine M T) (old : Subscription M T) (at : ℕ) (new : Subscription M T) : Type 0 where
  pub part : Part.IsRow mc old.part at new.part
  pub queue : new.queue ≡ old.queue
  pub kept : IsKeptBeside old new

-- a move inside a tree: each but the Take of the root, which delivers
abbrev pub IsInside : Move → Type 0
IsInside (Ask t n) = Unit {0}
IsInside (Send t n) = Unit {0}
IsInside (Take t n) = 0 < n.0
IsInside (Pick t n i) = Unit {0}
IsInside (Row t n) = Unit {0}
IsInside (Accept h) = ⊥

-- the effect of a move of the part
abbrev pub IsWorkedBy : {M T : Type 0} → Machine M T → Meaning T → Option NodeMove → Subscription M T → Subscription M T → Type 0
IsWorkedBy mc m None old new = ⊥
IsWorkedBy mc m (Some (NodeAsk n)) old new = IsAsk mc old n new
IsWorkedBy mc m (Some (NodeSend n)) old new = IsSend mc m old n new
IsWorkedBy mc m (Some (NodePick n i)) old new = IsPicked mc old n i new
IsWorkedBy mc m (Some (NodeRow n)) old new = IsRowMade mc old n new

-- the effect of a move inside a tree
abbrev pub IsWorked : {M T : Type 0} → Machine M T → Nodes M T → Meaning T → Move → Subscription M T → Subscription M T → Type 0
IsWorked mc kd m mv old new = IsWorkedBy mc m (inner_move kd old mv) old new

-- what a call that makes just this move of the part says besides, where there is one: no step of a node was made besides
abbrev pub IsAloneBy : {M T : Type 0} → Machine M T → Meaning T → Option NodeMove → Subscription M T → Subscription M T → Type 0
IsAloneBy mc m None old new = ⊤
IsAloneBy mc m (Some step) old new = Part.IsAlone mc m step old.part new.part

-- the same of the move inside the tree that a move names
abbrev pub IsAlone : {M T : Type 0} → Machine M T → Nodes M T → Meaning T → Move → Subscription M T → Subscription M T → Type 0
IsAlone mc kd m mv old new = IsAloneBy mc m (inner_move kd old mv) old new

-- a Take: the front signal left the queue, no edge changed, and the subscription stands as the table says; an item is
-- counted as delivered
pub record IsTake {M T : Type 0} (old : Subscription M T) (s : Signal T) (new : Subscription M T) : Type 0 where
  pub part : new.part ≡ old.part
  pub queue : old.queue ≡ s ∷ new.queue
  pub state : new.state ≡ state_after (cell_of old.state (input_of s)) old.state
  pub live : new.live ≡ old.live
  pub requested : new.demand.asked ≡ asked_after (cell_of old.state (input_of s)) old.demand
  pub delivered : new.demand.sent ≡ sent_after (cell_of old.state (input_of s)) old.demand

-- a move's effect on the subscription in which it was made: a Take delivers a signal, or is one inside the tree
abbrev pub IsEffect : {M T : Type 0} → Machine M T → Nodes M T → Meaning T → Move → Subscription M T → Subscription M T → Option (SubId × Signal T) → Type 0
IsEffect mc kd m (Ask t n) old new o = IsWorked mc kd m (Ask t n) old new
IsEffect mc kd m (Send t n) old new o = IsWorked mc kd m (Send t n) old new
IsEffect mc kd m (Take t n) old new None = IsWorked mc kd m (Take t n) old new
IsEffect mc kd m (Take t n) old new (Some d) = IsTake old d.1 new
IsEffect mc kd m (Pick t n i) old new o = IsWorked mc kd m (Pick t n i) old new
IsEffect mc kd m (Row t n) old new o = IsWorked mc kd m (Row t n) old new
IsEffect mc kd m (Accept h) old new o = ⊥

-- what a Take answers: that of a root hands its signal on
abbrev pub IsTakeAnswer : {T : Type 0} → Bool → SubId → Option (SubId × Signal T) → Type 0
IsTakeAnswer {T} true i o = (s : Signal T) × (o ≡ Some (i, s))
IsTakeAnswer false i o = o ≡ None

-- what a move that was made answers
abbrev pub IsMadeAnswer : {T : Type 0} → Move → Option (SubId × Signal T) → Type 0
IsMadeAnswer (Ask t n) o = o ≡ None
IsMadeAnswer (Send t n) o = o ≡ None
IsMadeAnswer (Take (Sub i) n) o = IsTakeAnswer (nat_eq n.0 0) i o
IsMadeAnswer (Take (Feed h) n) o = o ≡ None
IsMadeAnswer (Pick t n i) o = o ≡ None
IsMadeAnswer (Row t n) o = o ≡ None
IsMadeAnswer (Accept h) o = o ≡ None
