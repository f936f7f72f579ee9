-- What a contract sees of a hub, and what its calls make of it.
use Rattle.std.specs.Prelude.{◌≡◌, ◌⊎◌, ℕ, ◌+◌, ◌-◌, ◌<◌, ◌≤◌, Bool, true, false, ◌&&◌, if◌then◌else◌, nat_eq, nat_le, nat_lt, List, [], ◌∷◌, ◌++◌, length, drop, Option, Some, None}
use Rattle.circular_buffer.specs.Buffer.{keep_last}
use Rattle.rsx_sources.specs.Prelude.{HubKind, Multicast, Replay, Ending, Open, Done, Failed, Signal, Next, Complete, Error, Stream, is_nil}
use Rattle.rsx_hub.specs.declared.TheConstants.{LARGEST, MOST_ACCEPTED, MOST_MEMBERS}
use Rattle.rsx_hub.specs.declared.refusal.Rejected.{Rejected}
use Rattle.rsx_hub.specs.declared.refusal.Rejected.TheVariants.{Ended as EndedItem, TooMany as TooManyItems, Full}
use Rattle.rsx_hub.specs.declared.refusal.HubRefusal.{HubRefusal}
use Rattle.rsx_hub.specs.declared.refusal.HubRefusal.TheVariants.{BadNumber, NoMemory as HubNoMemory}
use Rattle.rsx_hub.specs.declared.refusal.TakeInRefusal.{TakeInRefusal}
use Rattle.rsx_hub.specs.declared.refusal.TakeInRefusal.TheVariants.{Ended as HubEnded, Waiting, TooMany as TooManySignals, NoMemory as TakeInNoMemory}
use Rattle.rsx_hub.specs.declared.refusal.AdmitRefusal.{AdmitRefusal}
use Rattle.rsx_hub.specs.declared.refusal.AdmitRefusal.TheVariants.{TooMany as TooManyMembers, NoMemory as AdmitNoMemory}
use Rattle.rsx_hub.specs.Waiting.{is_open, first_waiting}

pub record HubState (T : Type 0) : Type 0 where
  -- what a new member gets
  pub kind : HubKind
  -- where so many items wait in the inbox, no more is accepted from its emitter
  pub capacity : ℕ
  -- the items that were accepted and not taken in yet, the oldest first
  pub inbox : List T
  -- how its emitter ended
  pub ending : Ending
  -- how many items it took in
  pub count : ℕ
  -- the last of them, which it keeps for new members
  pub kept : List T
  -- whether its ending was taken in too
  pub has_ended : Bool
  -- how many members it has had
  pub members : ℕ

-- how many of the items that it took in a hub keeps at most
abbrev pub replayed : HubKind → ℕ
replayed Multicast = 0
replayed (Replay n) = n

-- the copy of an item that a hub of this kind keeps: none where it replays none
abbrev pub kept_copy : {T : Type 0} → HubKind → T → Option T
kept_copy k x = if nat_eq (replayed k) 0 then None else Some x

-- how many items a member misses that joins where the hub took in so many
abbrev pub join : HubKind → ℕ → ℕ
join Multicast count = count
join (Replay n) count = count - n

abbrev pub is_number : ℕ → Bool
is_number n = nat_le 1 n && nat_le n LARGEST

-- whether the capacity and the number of a replay are in their limits
abbrev pub are_numbers : HubKind → ℕ → Bool
are_numbers Multicast c = is_number c
are_numbers (Replay n) c = is_number c && is_number n

-- nothing was emitted
abbrev pub fresh_hub : {T : Type 0} → HubKind → ℕ → HubState T
fresh_hub k c = record { kind = k; capacity = c; inbox = []; ending = Open; count = 0; kept = []; has_ended = false; members = 0 }

-- why a hub was not made
abbrev pub IsNotMade : HubRefusal → HubKind → ℕ → Type 0
IsNotMade BadNumber k c = are_numbers k c ≡ false
IsNotMade HubNoMemory k c = are_numbers k c ≡ true

-- ---- from its emitter

-- how many items it has accepted
abbrev pub accepted_items : {T : Type 0} → HubState T → ℕ
accepted_items h = h.count + length h.inbox

-- whether it accepts an item
abbrev pub accepts_items : {T : Type 0} → HubState T → Bool
accepts_items h = is_open h.ending && (nat_lt (accepted_items h) MOST_ACCEPTED && nat_lt (length h.inbox) h.capacity)

-- the item stands behind the others
abbrev pub emitted : {T : Type 0} → HubState T → T → HubState T
emitted h x = record h { inbox = h.inbox ++ x ∷ [] }

-- the item comes back, for the first of these reasons
abbrev pub IsRejected : {T : Type 0} → HubState T → T → Rejected T → Type 0
IsRejected h x (EndedItem y) = (y ≡ x) × (is_open h.ending ≡ false)
IsRejected h x (TooManyItems y) = (y ≡ x) × (is_open h.ending ≡ true) × (MOST_ACCEPTED ≤ accepted_items h)
IsRejected h x (Full y) = (y ≡ x) × (is_open h.ending ≡ true) × (accepted_items h < MOST_ACCEPTED) × (h.capacity ≤ length h.inbox)

-- its emitter ended
abbrev pub ended_with : {T : Type 0} → HubState T → Ending → HubState T
ended_with h e = record h { ending = e }

-- ---- what is taken in

-- the signal that waits in front of the inbox
abbrev pub waiting : {T : Type 0} → HubState T → Option (Signal T)
waiting h = first_waiting h.inbox h.ending h.has_ended

-- after this signal was taken in
abbrev pub taken_in : {T : Type 0} → HubState T → Signal T → HubState T
taken_in h (Next x) = record h { count = h.count + 1; kept = keep_last (replayed h.kind) (h.kept ++ x ∷ []) }
taken_in h Complete = record h { ending = Done; has_ended = true }
taken_in h (Error c) = record h { ending = Failed c; has_ended = true }

-- after the signal in front of the inbox was taken in
abbrev pub accepted : {T : Type 0} → HubState T → Option (Signal T) → HubState T
accepted h None = h
accepted h (Some s) = taken_in (record h { inbox = drop 1 h.inbox }) s

-- what a hub keeps that takes in these items: the last of those that it kept and of them
abbrev pub kept_with : {T : Type 0} → ℕ → List T → List T → List T
kept_with n ks [] = ks
kept_with n ks (x ∷ xs) = keep_last n (ks ++ x ∷ xs)

-- after all items of the inbox were taken in
abbrev pub all_accepted : {T : Type 0} → HubState T → HubState T
all_accepted h = record h { inbox = []; count = h.count + length h.inbox; kept = kept_with (replayed h.kind) h.kept h.inbox }

-- the second is the first after these items were taken in, one after the other: each of them waited in front of the inbox
abbrev pub AllByOne : {T : Type 0} → HubState T → List T → HubState T → Type 0
AllByOne a [] b = b ≡ a
AllByOne {T} a (x ∷ xs) b = (mid : HubState T) × (waiting a ≡ Some (Next x)) × (mid ≡ accepted a (Some (Next x))) × AllByOne mid xs b

-- how many items a signal is
abbrev pub items_of : {T : Type 0} → Signal T → ℕ
items_of (Next x) = 1
items_of Complete = 0
items_of (Error c) = 0

-- whether it takes this signal in from a feed
abbrev pub takes_signal : {T : Type 0} → HubState T → Signal T → Bool
takes_signal h s = is_open h.ending && (is_nil h.inbox && nat_le (h.count + items_of s) MOST_ACCEPTED)

-- whether it takes so many items in from a feed one after the other, and keeps none of them
abbrev pub takes_many : {T : Type 0} → HubState T → ℕ → Bool
takes_many h n = is_open h.ending && (is_nil h.inbox && (nat_eq (replayed h.kind) 0 && nat_le (h.count + n) MOST_ACCEPTED))

-- the second is the first after these items were taken in from a feed, one after the other: it took each of them
abbrev pub AreTakenIn : {T : Type 0} → HubState T → List T → HubState T → Type 0
AreTakenIn a [] b = b ≡ a
AreTakenIn {T} a (x ∷ xs) b = (mid : HubState T) × (takes_signal a (Next x) ≡ true) × (mid ≡ taken_in a (Next x)) × AreTakenIn mid xs b

-- why it doesn't
abbrev pub IsNotTakenIn : {T : Type 0} → HubState T → Signal T → TakeInRefusal → Type 0
IsNotTakenIn h s HubEnded = is_open h.ending ≡ false
IsNotTakenIn h s Waiting = (is_open h.ending ≡ true) × (0 < length h.inbox)
IsNotTakenIn h s TooManySignals = (is_open h.ending ≡ true) × (h.inbox ≡ []) × (MOST_ACCEPTED < h.count + items_of s)
IsNotTakenIn h s TakeInNoMemory = (takes_signal h s ≡ true) × (items_of s ≡ 1)

-- why an item of a feed isn't taken in: the limit first, and memory last
abbrev pub IsNotCounted : {T : Type 0} → HubState T → TakeInRefusal → Type 0
IsNotCounted h e = (e ≡ TooManySignals × MOST_ACCEPTED ≤ h.count) ⊎ (e ≡ TakeInNoMemory × h.count < MOST_ACCEPTED)

-- ---- its value

-- the hub took in these items and no others
pub record HasTakenIn {T : Type 0} (h : HubState T) (taken : List T) : Type 0 where
  pub counted : h.count ≡ length taken
  pub kept : h.kept ≡ keep_last (replayed h.kind) taken

-- the value of a hub that took in these items: what its emitter was answered ok for
abbrev pub hub_value : {T : Type 0} → HubState T → List T → Stream T
hub_value h taken = record { items = taken ++ h.inbox; ending = h.ending }

-- a value that begins with what the hub took in
pub record BeginsWith {T : Type 0} (h : HubState T) (taken : List T) (w : Stream T) : Type 0 where
  pub more : List T
  pub items : w.items ≡ taken ++ more
  pub ended : h.has_ended ≡ true → (more ≡ []) × (w.ending ≡ h.ending)

-- ---- members

-- there is no new member
abbrev pub IsNotAdmitted : {T : Type 0} → HubState T → AdmitRefusal → Type 0
IsNotAdmitted h TooManyMembers = MOST_MEMBERS ≤ h.members
IsNotAdmitted h AdmitNoMemory = h.members < MOST_MEMBERS

abbrev pub with_members : {T : Type 0} → HubState T → ℕ → HubState T
with_members h k = record h { members = h.members + k }

-- what holds of every hub
pub record IsHub {T : Type 0} (h : HubState T) : Type 0 where
  pub positive : 1 ≤ h.capacity
  pub within : h.capacity ≤ LARGEST
  pub replays : replayed h.kind ≤ LARGEST
  pub few_items : accepted_items h ≤ MOST_ACCEPTED
  pub few_members : h.members ≤ MOST_MEMBERS
  pub few_kept : length h.kept ≤ replayed h.kind
  pub all_taken : h.has_ended ≡ true → (h.inbox ≡ []) × (is_open h.ending ≡ false)
