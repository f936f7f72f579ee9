-- A hub and one of its members, over any list of what happens to them.
use Rattle.std.specs.Prelude.{◌≡◌, Bool, true, false, ◌&&◌, List, [], ◌∷◌, ◌++◌, Option, Some, None}
use Rattle.rsx_sources.specs.Prelude.{Ending, Signal, Next, Complete, Error, Stream, signals_then}
use Rattle.rsx_hub.specs.Hub.{HubState, IsHub, join, emitted, accepts_items, ended_with, waiting, taken_in, accepted, takes_signal, HasTakenIn, hub_value, BeginsWith}
use Rattle.rsx_hub.specs.Member.{MemberState, without, rest, fresh_member, takes, took, offered, given}
use Rattle.rsx_hub.specs.Waiting.{is_open}

-- what happens: the emitter emits an item or ends, the hub takes a signal in from its inbox or from a feed, and the member
-- gives one out
pub data Step (T : Type 0) : Type 0 where
  emits : T → Step T
  ends : Ending → Step T
  accepts : Step T
  feeds : Signal T → Step T
  advances : Step T

pub record Reading (T : Type 0) : Type 0 where
  pub hub : HubState T
  pub member : MemberState T
  -- the items that the emitter or the feed was answered ok for, and those that the hub took in, from its first on
  pub published : List T
  pub taken : List T
  -- what the member gave out
  pub given_out : List (Signal T)

-- a list, and the item of a signal behind it
abbrev pub item_behind : {T : Type 0} → List T → Signal T → List T
item_behind xs (Next x) = xs ++ x ∷ []
item_behind xs Complete = xs
item_behind xs (Error c) = xs

-- the hub is this one now, took this signal in, and the member did; without room at the member, nothing happens
abbrev pub handed : {T : Type 0} → Reading T → HubState T → List T → Signal T → Bool → Reading T
handed r h ps s false = r
handed r h ps s true = record { hub = h; member = took r.member s; published = ps; taken = item_behind r.taken s; given_out = r.given_out }

abbrev pub accepted_next : {T : Type 0} → Reading T → Option (Signal T) → Reading T
accepted_next r None = r
accepted_next r (Some s) = handed r (accepted r.hub (Some s)) r.published s (takes r.member s)

abbrev pub given_next : {T : Type 0} → Reading T → Option (Signal T) → Reading T
given_next r None = r
given_next r (Some s) = record { hub = r.hub; member = given r.member (Some s); published = r.published; taken = r.taken; given_out = r.given_out ++ s ∷ [] }

abbrev pub emitted_next : {T : Type 0} → Reading T → T → Bool → Reading T
emitted_next r x false = r
emitted_next r x true = record { hub = emitted r.hub x; member = r.member; published = r.published ++ x ∷ []; taken = r.taken; given_out = r.given_out }

abbrev pub ended_next : {T : Type 0} → Reading T → Ending → Bool → Reading T
ended_next r e false = r
ended_next r e true = record { hub = ended_with r.hub e; member = r.member; published = r.published; taken = r.taken; given_out = r.given_out }

-- what is refused changes nothing
abbrev pub next : {T : Type 0} → Reading T → Step T → Reading T
next r (emits x) = emitted_next r x (accepts_items r.hub)
next r (ends e) = ended_next r e (is_open r.hub.ending)
next r accepts = accepted_next r (waiting r.hub)
next r (feeds s) = handed r (taken_in r.hub s) (item_behind r.published s) s (takes_signal r.hub s && takes r.member s)
next r advances = given_next r (offered r.member)

abbrev pub after : {T : Type 0} → Reading T → List (Step T) → Reading T
after r [] = r
after r (s ∷ ss) = after (next r s) ss

-- a member has just joined
abbrev pub joined_now : {T : Type 0} → HubState T → List T → Reading T
joined_now h taken = record { hub = h; member = fresh_member h; published = taken ++ h.inbox; taken = taken; given_out = [] }

-- the end of a reading that began so: the hub stands for what was published, and what the member gave out, followed by
-- what it still gives out, is the hub's value from the member's join on
pub record IsRead {T : Type 0} (h : HubState T) (r : Reading T) : Type 0 where
  pub history : HasTakenIn r.hub r.taken
  pub published : (hub_value r.hub r.taken).items ≡ r.published
  -- over each value that begins with what the hub took in
  pub reads : (w : Stream T) → BeginsWith r.hub r.taken w → signals_then r.given_out (rest r.member w) ≡ without (join h.kind h.count) w
  -- so over the value published so far
  pub reads_all : signals_then r.given_out (rest r.member (hub_value r.hub r.taken)) ≡ without (join h.kind h.count) (hub_value r.hub r.taken)

-- so it is over any list of what happens
abbrev pub ReadsOn : Type 0 → Type 0
ReadsOn T = (h : HubState T) → IsHub h → (taken : List T) → HasTakenIn h taken → (steps : List (Step T)) → IsRead h (after (joined_now h taken) steps)
