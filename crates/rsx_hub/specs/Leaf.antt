-- The node that reads a hub: what it offers, what still comes out of it, and how far it got.
use Rattle.std.specs.Prelude.{◌≡◌, ℕ, ◌+◌, ◌-◌, min, Bool, false, ◌&&◌, ◌||◌, if◌then◌else◌, nat_lt, List, [], ◌∷◌, ◌++◌, length, Option, Some, None}
use Rattle.rsx_sources.specs.Prelude.{Note, Ending, Open, Done, Failed, Signal, Next, Complete, Error, Meaning, Stream, Incoming, quiet, Reading, published_at, is_nil}
use Rattle.rsx_sources.specs.declared.machine.Front.{Front}
use Rattle.rsx_hub.specs.Member.{MemberState, rest, offered, IsGiven}
use Rattle.rsx_hub.specs.Waiting.{first_shown, is_open}
use Rattle.rsx_hub.specs.declared.TheConstants.{MOST_ACCEPTED}

-- the number of its hub, and its member of that hub, which never leaves. The last two are what its counts begin with, and no call
-- changes them: as it was made, its member had reached `missed` items, and `before` were sent already or in its queue
pub record LeafState (T : Type 0) : Type 0 where
  pub hub : ℕ
  pub queue : List T
  pub ending : Ending
  pub reached : ℕ
  pub capacity : ℕ
  pub places : ℕ
  pub missed : ℕ
  pub before : ℕ

abbrev pub member_of : {T : Type 0} → LeafState T → MemberState T
member_of n = record { queue = n.queue; ending = n.ending; gone = false; reached = n.reached; capacity = n.capacity; places = n.places }

-- the member's queue still comes out, and then the hub's value from where it got to
abbrev pub leaf_comes_out : {T : Type 0} → Meaning T → LeafState T → Incoming T → Note → Option (Stream T)
leaf_comes_out m n inc further = quiet further (rest (member_of n) (published_at inc.hubs n.hub))

-- an item of the queue waits, and then the hub's ending, once that was taken in; it goes on waiting as it is sent
abbrev pub leaf_waiting : {T : Type 0} → Meaning T → LeafState T → Option (Signal T)
leaf_waiting m n = offered (member_of n)

-- which signal that is
abbrev pub leaf_shown : {T : Type 0} → LeafState T → Option Front
leaf_shown n = first_shown n.queue n.ending false

-- an item leaves the queue, and can be put back; an ending leaves all as it is
abbrev pub leaf_popped : {T : Type 0} → LeafState T → Signal T → LeafState T → Type 0
leaf_popped old (Next x) new = (old.hub ≡ new.hub) × IsGiven (member_of old) (Next x) (member_of new) × (old.missed ≡ new.missed) × (old.before ≡ new.before)
leaf_popped old Complete new = new ≡ old
leaf_popped old (Error c) new = new ≡ old

-- it reads the hub until it took in the hub's ending
abbrev pub reading_of : Ending → Reading → Option Reading
reading_of Open r = Some r
reading_of Done r = None
reading_of (Failed c) r = None

abbrev pub leaf_reads : {T : Type 0} → LeafState T → Option Reading
leaf_reads n = reading_of n.ending (record { hub = n.hub; reached = n.reached; missed = n.missed; before = n.before })

-- it has room for an item where its member takes one in. That has a capacity of one at least, so while its queue is empty, only the
-- most items that a member may take in can leave it without room
abbrev pub leaf_rooms : {T : Type 0} → LeafState T → Bool
leaf_rooms n = is_open n.ending && ((is_nil n.queue || nat_lt (length n.queue) n.capacity) && nat_lt n.reached MOST_ACCEPTED)

-- for how many items it has room at once
abbrev pub leaf_spaces : {T : Type 0} → LeafState T → ℕ
leaf_spaces n = if is_open n.ending then min (n.capacity - length n.queue) (MOST_ACCEPTED - n.reached) else 0

-- after it took this signal of its hub in
abbrev pub leaf_took : {T : Type 0} → LeafState T → Signal T → LeafState T
leaf_took n (Next x) = record n { queue = n.queue ++ x ∷ []; reached = n.reached + 1 }
leaf_took n Complete = record n { ending = Done }
leaf_took n (Error c) = record n { ending = Failed c }

-- after it took in these items of its hub
abbrev pub leaf_took_all : {T : Type 0} → LeafState T → List T → LeafState T
leaf_took_all n xs = record n { queue = n.queue ++ xs; reached = n.reached + length xs }

-- where it holds these items
abbrev pub with_queue : {T : Type 0} → LeafState T → List T → LeafState T
with_queue n q = record n { queue = q }

-- what it sent and what it holds is what it had before and what its member took in
abbrev pub leaf_counted : {T : Type 0} → LeafState T → List ℕ → ℕ → Type 0
leaf_counted n taken sent = n.missed + sent + length n.queue ≡ n.reached + n.before
