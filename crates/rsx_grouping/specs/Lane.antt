-- What still comes out of a lane, and what a pick takes of that.
use Rattle.std.specs.Prelude.{◌≡◌, ⊤, ℕ, Bool, true, false, ◌&&◌, ◌||◌, not, nat_lt, List, [], ◌∷◌, map, Option, Some, None, option_map}
use Rattle.rsx_sources.specs.Prelude.{Ending, Open, Done, Failed, Signal, Next, Complete, Error, Stage, Meaning, chained, Stream, ended_by, item_then, items_then, is_nil}
use Rattle.rsx_plain.specs.Emission.{emission_then}
use Rattle.rsx_plain.specs.declared.prepared.Emission.{Emission}
use Rattle.rsx_plain.specs.Chain.{chain_from, chain_over}
use Rattle.rsx_plain.specs.declared.chain.ChainState.{ChainState}
use Rattle.rsx_values.specs.Group.{tagged_items}
use Rattle.rsx_queued.specs.Input.{IsFirst}
use Rattle.rsx_grouping.specs.declared.lane.Begun.{Begun}
use Rattle.rsx_grouping.specs.declared.lane.Lane.{Lane}
use Rattle.rsx_grouping.specs.declared.lane.LanePick.{LanePick}
use Rattle.rsx_grouping.specs.declared.lane.LaneState.{LaneState}
use Rattle.rsx_grouping.specs.declared.lane.LaneState.TheVariants.{Running, Completed, Failing, Gone}

-- behind what waits: what comes out of the chain, each item with the tag of the lane's key, or the ending that the chain has put
-- out; nothing once that was picked
abbrev pub state_left : {T : Type 0} → Meaning T → ℕ → LaneState T → Stream T → Option (Stream T)
state_left m k (Running c) v = Some (tagged_items m k (chain_from m c v))
state_left m k Completed v = Some (ended_by Done)
state_left m k (Failing f) v = Some (ended_by (Failed f))
state_left m k Gone v = None

-- what waits, each item with the tag, and then that
abbrev pub lane_left : {T : Type 0} → Meaning T → ℕ → Lane T → Stream T → Option (Stream T)
lane_left m k l v = option_map (λ w. items_then (map (m.tagged k) l.waiting) w) (state_left m k l.state v)

-- where a chain is that has put out this ending
abbrev pub state_after : {T : Type 0} → ChainState T → Ending → LaneState T
state_after c Open = Running c
state_after c Done = Completed
state_after c (Failed f) = Failing f

-- where a lane is whose chain has put out this ending
abbrev pub state_ended : {T : Type 0} → Ending → LaneState T
state_ended Open = Gone
state_ended Done = Completed
state_ended (Failed f) = Failing f

-- the signal of an ending
abbrev pub ending_signal : {T : Type 0} → Ending → Signal T
ending_signal Open = Complete
ending_signal Done = Complete
ending_signal (Failed f) = Error f

abbrev pub is_gone_state : {T : Type 0} → LaneState T → Bool
is_gone_state (Running c) = false
is_gone_state Completed = false
is_gone_state (Failing f) = false
is_gone_state Gone = true

-- whether its ending was picked
abbrev pub is_gone : {T : Type 0} → Lane T → Bool
is_gone l = is_gone_state l.state

-- whether no ending was put out
abbrev pub is_running : {T : Type 0} → LaneState T → Bool
is_running (Running c) = true
is_running Completed = false
is_running (Failing f) = false
is_running Gone = false

-- the chain of a lane that runs is not over
abbrev pub GoesOn : {T : Type 0} → LaneState T → Type 0
GoesOn (Running c) = chain_over c ≡ false
GoesOn Completed = ⊤
GoesOn (Failing f) = ⊤
GoesOn Gone = ⊤

-- nor is that of the lane that a pick completed, if it completed one
abbrev pub PickGoesOn : {T : Type 0} → Option (Lane T) → Type 0
PickGoesOn None = ⊤
PickGoesOn (Some l) = GoesOn l.state

-- whether nothing waits of a lane in this state, of which items wait or not
abbrev pub is_quiet_of : {T : Type 0} → LaneState T → Bool → Bool
is_quiet_of (Running c) none = none
is_quiet_of Completed none = false
is_quiet_of (Failing f) none = false
is_quiet_of Gone none = true

-- whether nothing of it waits: no item, and no ending that was put out
abbrev pub is_quiet : {T : Type 0} → Lane T → Bool
is_quiet l = is_quiet_of l.state (is_nil l.waiting)

-- whether a lane in this state, of which items wait or not, can be picked
abbrev pub can_pick_of : {T : Type 0} → LaneState T → Bool → Bool → ℕ → ℕ → Bool
can_pick_of (Running c) none done asked sent = (not none || done) && nat_lt sent asked
can_pick_of Completed none done asked sent = none || nat_lt sent asked
can_pick_of (Failing f) none done asked sent = none || nat_lt sent asked
can_pick_of Gone none done asked sent = false

-- whether a lane can be picked: an item, and its completion where the input is done, only where one more may be sent; an ending that
-- waits at once
abbrev pub can_pick : {T : Type 0} → Lane T → Bool → ℕ → ℕ → Bool
can_pick l done asked sent = can_pick_of l.state (is_nil l.waiting) done asked sent

-- what comes out of a chain that takes an item, and then what comes out of it
abbrev pub TakesItem : {T : Type 0} → Meaning T → ChainState T → T → Emission T → ChainState T → Type 0
TakesItem {T} m old x out new = (v : Stream T) → chain_from m old (item_then x v) ≡ emission_then out (chain_from m new v)

-- what comes out of a new chain at its start and by its first item, and then what comes out of it
abbrev pub Begins : {T : Type 0} → Meaning T → List (Stage T) → T → Begun T → Type 0
Begins {T} m gs x b = (v : Stream T) → chained m gs (item_then x v) ≡ items_then b.items.items (emission_then b.out (chain_from m b.chain v))

-- what comes out of a lane at which nothing came in is what its operators make of all that comes in
abbrev pub IsFresh : {T : Type 0} → Meaning T → List (Stage T) → Lane T → Type 0
IsFresh {T} m gs l = (k : ℕ) (v : Stream T) → Some (tagged_items m k (chained m gs v)) ≡ lane_left m k l v

-- an item came in: what came out of the old lane behind it comes out of the new one
abbrev pub TakesOne : {T : Type 0} → Meaning T → Lane T → T → Lane T → Type 0
TakesOne {T} m old x new = (k : ℕ) (v : Stream T) → lane_left m k old (item_then x v) ≡ lane_left m k new v

-- what comes out of a lane that began with an item is what its operators make of that item and all that comes behind it
abbrev pub BeginsWith : {T : Type 0} → Meaning T → List (Stage T) → T → Lane T → Type 0
BeginsWith {T} m gs x l = (k : ℕ) (v : Stream T) → Some (tagged_items m k (chained m gs (item_then x v))) ≡ lane_left m k l v

-- ---- picks

-- a lane without the signal that waited: an item, or the ending
abbrev pub without_next : {T : Type 0} → LaneState T → List T → Lane T
without_next s [] = record { state = Gone; waiting = [] }
without_next s (x ∷ xs) = record { state = s; waiting = xs }

-- a lane after a pick: the one that it completed, or the old one without the signal that waited
abbrev pub after_pick : {T : Type 0} → Option (Lane T) → Lane T → Lane T
after_pick (Some l) old = l
after_pick None old = without_next old.state old.waiting

-- whether a pick completes the lane
abbrev pub completes : {T : Type 0} → Lane T → Bool
completes l = is_nil l.waiting && is_running l.state

-- the pick takes the first of what comes out of the chain at the completion of the input, and leaves the lane with the rest
abbrev pub CompletesWith : {T : Type 0} → Meaning T → ℕ → ChainState T → LanePick T → Type 0
CompletesWith {T} m k c p = (l : Lane T) × (p.lane ≡ Some l) × IsFirst p.signal (Some (tagged_items m k (chain_from m c (ended_by Done)))) (lane_left m k l (ended_by Done))

-- the pick takes the first of what comes out of the lane, whatever still comes in; where it completes the lane the input is done
abbrev pub TakesFirst : {T : Type 0} → Meaning T → ℕ → Lane T → LanePick T → Type 0
TakesFirst {T} m k old p = (v : Stream T) → (completes old ≡ true → v ≡ ended_by Done) → IsFirst p.signal (lane_left m k old v) (lane_left m k (after_pick p.lane old) v)

abbrev pub IsPrepared : {T : Type 0} → Meaning T → ℕ → Lane T → LanePick T → Type 0
IsPrepared m k old p = TakesFirst m k old p

-- an item waited of a lane whose ending was not picked; the pick takes it, with the tag, and leaves the lane without it
pub record IsItemPicked {T : Type 0} (m : Meaning T) (k : ℕ) (old : Lane T) (x : T) (new : Lane T) : Type 0 where
  pub waits : is_nil old.waiting ≡ false
  pub there : is_gone old ≡ false
  pub first : IsPrepared m k old (record { signal = Next x; lane = None })
  pub left : new ≡ after_pick None old
