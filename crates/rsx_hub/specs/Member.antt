-- What a contract sees of a member, what its calls make of it, and what it still gives out.
use Rattle.std.specs.Prelude.{◌≡◌, ℕ, ◌+◌, ◌-◌, ◌≤◌, min, max, Bool, true, false, ◌&&◌, if◌then◌else◌, nat_lt, List, [], ◌∷◌, ◌++◌, length, reverse, drop, Option, Some, None}
use Rattle.rsx_sources.specs.Prelude.{Ending, Open, Done, Failed, Signal, Next, Complete, Error, Stream, ended_by, items_then, signal_then, ended_or}
pub use Rattle.rsx_sources.specs.Reading.{IsNextAt}
use Rattle.rsx_hub.specs.declared.TheConstants.{MOST_ACCEPTED}
use Rattle.rsx_hub.specs.Hub.{HubState, replayed, join, HasTakenIn, BeginsWith}
use Rattle.rsx_hub.specs.Waiting.{is_open, first_waiting}

pub record MemberState (T : Type 0) : Type 0 where
  -- the items that it took in and hasn't given out, the oldest first
  pub queue : List T
  -- the ending of the hub, once it took that in
  pub ending : Ending
  -- whether it gave out that ending, or left
  pub gone : Bool
  -- how far into the hub's value it got, in items from the hub's first
  pub reached : ℕ
  -- where so many items wait, it takes in no more
  pub capacity : ℕ
  -- how many items there is storage for
  pub places : ℕ

-- ---- what it still gives out

-- a value without its first items
abbrev pub without : {T : Type 0} → ℕ → Stream T → Stream T
without n w = record { items = drop n w.items; ending = w.ending }

-- what comes behind the queue: once the ending is gone, nothing
abbrev pub behind : {T : Type 0} → Bool → Ending → Stream T → Stream T
behind true e v = ended_by Open
behind false e v = ended_or e v

-- what a member still gives out, where v stands behind what it took in: the items of its queue, and then v
abbrev pub rest_before : {T : Type 0} → MemberState T → Stream T → Stream T
rest_before m v = items_then m.queue (behind m.gone m.ending v)

-- what a member still gives out, where the hub's whole value is w: the items of its queue, and then w from the item on
-- that it has reached
abbrev pub rest : {T : Type 0} → MemberState T → Stream T → Stream T
rest m w = rest_before m (without m.reached w)

-- it still gives out the hub's whole value without its first items, as many as the hub's join says
abbrev pub ReadsFromJoin : {T : Type 0} → HubState T → MemberState T → Type 0
ReadsFromJoin {T} h m = (taken : List T) → HasTakenIn h taken → (w : Stream T) → BeginsWith h taken w → rest m w ≡ without (join h.kind h.count) w

-- the signal was given out: it comes first, and then what the second still gives out
abbrev pub GivesFirst : {T : Type 0} → MemberState T → Signal T → MemberState T → Type 0
GivesFirst {T} old s new = (w : Stream T) → rest old w ≡ signal_then s (rest new w)

-- ---- its calls

-- a member that has taken in nothing, of a hub that took in so many items
abbrev pub empty_member : {T : Type 0} → ℕ → ℕ → ℕ → MemberState T
empty_member capacity replayed reached =
    record { queue = []; ending = Open; gone = false; reached = reached; capacity = capacity; places = max capacity replayed }

-- the ending that a new member has
abbrev pub ending_taken : Bool → Ending → Ending
ending_taken true e = e
ending_taken false e = Open

-- a member that has joined and nothing else: it begins with the items that the hub keeps
abbrev pub fresh_member : {T : Type 0} → HubState T → MemberState T
fresh_member h = record { queue = h.kept; ending = ending_taken h.has_ended h.ending; gone = false; reached = h.count; capacity = h.capacity; places = max h.capacity (replayed h.kind) }

-- whether more may come in
abbrev pub is_reading : Bool → Ending → Bool
is_reading true e = false
is_reading false e = is_open e

-- whether it takes in an item
abbrev pub takes_items : {T : Type 0} → MemberState T → Bool
takes_items m = is_reading m.gone m.ending && (nat_lt (length m.queue) m.capacity && nat_lt m.reached MOST_ACCEPTED)

-- whether it takes in this signal: an ending needs no room
abbrev pub takes : {T : Type 0} → MemberState T → Signal T → Bool
takes m (Next x) = takes_items m
takes m Complete = is_reading m.gone m.ending
takes m (Error c) = is_reading m.gone m.ending

-- after it took this signal in
abbrev pub took : {T : Type 0} → MemberState T → Signal T → MemberState T
took m (Next x) = record m { queue = m.queue ++ x ∷ []; reached = m.reached + 1 }
took m Complete = record m { ending = Done }
took m (Error c) = record m { ending = Failed c }

-- after it took in these items
abbrev pub took_all : {T : Type 0} → MemberState T → List T → MemberState T
took_all m xs = record m { queue = m.queue ++ xs; reached = m.reached + length xs }

-- so many items left the end of a list, the last one first, and this holds of them
abbrev pub AreMoved : {T : Type 0} → ℕ → List T → List T → (List T → Type 0) → Type 0
AreMoved {T} count old new done = (xs : List T) × (length xs ≡ count) × (old ≡ new ++ reverse xs) × done xs

-- for how many items it has room
abbrev pub spaces : {T : Type 0} → MemberState T → ℕ
spaces m = if is_reading m.gone m.ending then min (m.capacity - length m.queue) (MOST_ACCEPTED - m.reached) else 0

-- the signal that is offered
abbrev pub offered : {T : Type 0} → MemberState T → Option (Signal T)
offered m = first_waiting m.queue m.ending m.gone

-- after it gave out the signal that it offered
abbrev pub given : {T : Type 0} → MemberState T → Option (Signal T) → MemberState T
given m None = m
given m (Some (Next x)) = record m { queue = drop 1 m.queue }
given m (Some Complete) = record m { gone = true }
given m (Some (Error c)) = record m { gone = true }

-- after it left
abbrev pub left : {T : Type 0} → MemberState T → MemberState T
left m = record m { queue = []; gone = true }

-- what holds of every member
pub record IsMember {T : Type 0} (m : MemberState T) : Type 0 where
  pub positive : 1 ≤ m.capacity
  pub fits : length m.queue ≤ m.places
  pub stored : m.capacity ≤ m.places
  pub few : m.reached ≤ MOST_ACCEPTED
  pub nothing_waits : m.gone ≡ true → m.queue ≡ []

-- the second is the first without the signal that it offered
pub record IsGiven {T : Type 0} (before : MemberState T) (s : Signal T) (after : MemberState T) : Type 0 where
  pub offers : offered before ≡ Some s
  pub gives : after ≡ given before (Some s)
  pub member : IsMember before
