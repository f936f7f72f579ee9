-- A node whose edge crosses to another region or doesn't.
use Rattle.std.specs.Prelude.{◌≡◌, ℕ, ◌<◌, Bool, true, false, List, Option, Some, None, option_map, ◌∷◌, ◌++◌, length, refl}
use Rattle.std.proofs.Common.{inl, inr}
use Rattle.rsx_sources.specs.Prelude.{Note, Signal, Meaning, Allocates, unchosen, Stream, AreWithin, CountsIn, CountsStep, CanStep, IsHungry, ends_input, Incoming, OffersWithin, front_of, incoming_of, IsSameKind, StaysAlike, Reading, takes_published}
use Rattle.rsx_sources.specs.declared.machine.Front.{Front}
use Rattle.rsx_sources.specs.declared.machine.Machine.{Ghosts as Machine}
use Rattle.rsx_queued.specs.declared.sender.Sender.{Sender}
use Rattle.rsx_queued.specs.declared.sender.Sender.TheVariants.{Direct, Crossing}
use Rattle.rsx_queued.specs.QueuedLaws.{Shows, Drops, Ends, Settles, Waits, Hungers, DoneDrops, queued_shows, queued_popped_alike, queued_drops, queued_ends, queued_ends_reading, queued_done_drops, queued_settles, queued_ending_waits, queued_hungry, queued_enough}
use Rattle.rsx_queued.specs.Queued.{queued_comes_out, queued_waiting, queued_shown, queued_takes, queued_picks, queued_rows, queued_recording, queued_ended, queued_done, queued_counted, queued_wanted, queued_accepts, queued_popped, queued_reads, queued_rooms, queued_allocates, queued_step_allocates}
use Rattle.rsx_queued.specs.Transfer.{IsQueuedPick, IsQueuedRow, queued_heard, queued_took}

-- ---- its meaning is that of the node, or of the node with its queue

abbrev pub sender_comes_out : {M T : Type 0} → Machine M T → Meaning T → Sender M T → Incoming T → Note → Option (Stream T)
sender_comes_out b m (Direct n) inc k = b.comes_out m n inc k
sender_comes_out b m (Crossing n) inc k = queued_comes_out b m n inc k

abbrev pub sender_waiting : {M T : Type 0} → Machine M T → Meaning T → Sender M T → Option (Signal T)
sender_waiting b m (Direct n) = b.waiting m n
sender_waiting b m (Crossing n) = queued_waiting m n

abbrev pub sender_shown : {M T : Type 0} → Machine M T → Sender M T → Option Front
sender_shown b (Direct n) = b.shown n
sender_shown b (Crossing n) = queued_shown n

abbrev pub sender_takes : {M T : Type 0} → Machine M T → Sender M T → ℕ → Front → Bool
sender_takes b (Direct n) i f = b.takes n i f
sender_takes b (Crossing n) i f = queued_takes b n i f

abbrev pub sender_picks : {M T : Type 0} → Machine M T → Sender M T → ℕ → ℕ → ℕ → Bool
sender_picks b (Direct n) i a s = b.picks n i a s
sender_picks b (Crossing n) i a s = queued_picks b n i a s

abbrev pub sender_rows : {M T : Type 0} → Machine M T → Sender M T → ℕ → ℕ → Bool
sender_rows b (Direct n) a s = b.rows n a s
sender_rows b (Crossing n) a s = queued_rows b n a s

abbrev pub sender_rowed : {M T : Type 0} → Machine M T → Sender M T → ℕ → ℕ → Sender M T → Type 0
sender_rowed b (Direct x) asked sent (Direct y) = b.rowed x asked sent y
sender_rowed b (Crossing x) asked sent (Crossing y) = IsQueuedRow b x asked sent y
sender_rowed b x asked sent y = ⊥

abbrev pub sender_took : {M T : Type 0} → Machine M T → Sender M T → ℕ → Signal T → Sender M T → Type 0
sender_took b (Direct x) i s (Direct y) = b.took x i s y
sender_took b (Crossing x) i s (Crossing y) = queued_took b x i s y
sender_took b x i s y = ⊥

abbrev pub sender_heard : {M T : Type 0} → Machine M T → Sender M T → Signal T → Sender M T → Type 0
sender_heard b (Direct x) s (Direct y) = b.heard x s y
sender_heard b (Crossing x) s (Crossing y) = queued_heard b x s y
sender_heard b x s y = ⊥

abbrev pub sender_picked : {M T : Type 0} → Machine M T → Sender M T → ℕ → Sender M T → Type 0
sender_picked b (Direct x) i (Direct y) = b.picked x i y
sender_picked b (Crossing x) i (Crossing y) = IsQueuedPick b x i y
sender_picked b x i y = ⊥

abbrev pub sender_recording : {M T : Type 0} → Machine M T → Sender M T → ℕ → Note
sender_recording b (Direct n) i = b.recording n i
sender_recording b (Crossing n) i = queued_recording b n i

abbrev pub sender_recorded : {M T : Type 0} → Machine M T → Sender M T → Note
sender_recorded b (Direct n) = b.recorded n
sender_recorded b (Crossing n) = b.recorded n.node

-- taking from a queue isn't recorded: the signal was recorded as it went over the edge
abbrev pub sender_popping : {M T : Type 0} → Machine M T → Sender M T → Option Note
sender_popping b (Direct n) = b.popping n
sender_popping b (Crossing n) = None

abbrev pub sender_ended : {M T : Type 0} → Machine M T → Sender M T → Bool
sender_ended b (Direct n) = b.ended n
sender_ended b (Crossing n) = queued_ended b n

abbrev pub sender_done : {M T : Type 0} → Machine M T → Sender M T → ℕ → Bool
sender_done b (Direct n) i = b.done n i
sender_done b (Crossing n) i = queued_done b n i

abbrev pub sender_counted : {M T : Type 0} → Machine M T → Sender M T → List ℕ → ℕ → Type 0
sender_counted b (Direct n) took sent = b.counted n took sent
sender_counted b (Crossing n) took sent = queued_counted b n took sent

abbrev pub sender_wanted : {M T : Type 0} → Machine M T → Sender M T → ℕ → ℕ → ℕ → ℕ
sender_wanted b (Direct n) i a s = b.wanted n i a s
sender_wanted b (Crossing n) i a s = queued_wanted b n i a s

abbrev pub sender_accepts : {M T : Type 0} → Machine M T → Sender M T → ℕ → ℕ → Bool
sender_accepts b (Direct n) a s = b.accepts n a s
sender_accepts b (Crossing n) a s = queued_accepts n a s

abbrev pub sender_popped : {M T : Type 0} → Machine M T → Sender M T → Signal T → Sender M T → Type 0
sender_popped b (Direct x) s (Direct y) = b.popped x s y
sender_popped b (Crossing x) s (Crossing y) = queued_popped x s y
sender_popped b x s y = ⊥

abbrev pub sender_reads : {M T : Type 0} → Machine M T → Sender M T → Option Reading
sender_reads b (Direct n) = b.reads n
sender_reads b (Crossing n) = queued_reads b n

abbrev pub sender_rooms : {M T : Type 0} → Machine M T → Sender M T → Bool
sender_rooms b (Direct n) = b.rooms n
sender_rooms b (Crossing n) = queued_rooms b n

-- whether its edge crosses, and has a queue
abbrev pub is_crossing : {M T : Type 0} → Sender M T → Bool
is_crossing (Direct n) = false
is_crossing (Crossing n) = true

abbrev pub sender_pop_allocates : {M T : Type 0} → Machine M T → Allocates → Sender M T → Bool
sender_pop_allocates b a (Direct n) = b.pop_allocates a n
sender_pop_allocates b a (Crossing n) = false

abbrev pub sender_signal_allocates : {M T : Type 0} → Machine M T → Allocates → Sender M T → Bool
sender_signal_allocates b a (Direct n) = b.signal_allocates a n
sender_signal_allocates b a (Crossing n) = queued_allocates b a n

abbrev pub sender_step_allocates : {M T : Type 0} → Machine M T → Allocates → Sender M T → Bool
sender_step_allocates b a (Direct n) = b.step_allocates a n
sender_step_allocates b a (Crossing n) = queued_step_allocates b a n

-- ---- the words of a node's calls

-- a signal of input i was taken in, by its counts
abbrev pub SenderCountsIn : {M T : Type 0} → Machine M T → Sender M T → ℕ → Signal T → Sender M T → Type 0
SenderCountsIn b old i s new = CountsIn (sender_counted b) (sender_ended b) (sender_done b) old i s new

-- whether it takes in this signal of the hub that it reads
abbrev pub sender_takes_published : {M T : Type 0} → Machine M T → Sender M T → Signal T → Bool
sender_takes_published b n s = takes_published (sender_reads b n) (sender_rooms b n) s

-- a step of the node itself
abbrev pub SenderCountsStep : {M T : Type 0} → Machine M T → Sender M T → Sender M T → Type 0
SenderCountsStep b old new = CountsStep (sender_counted b) (sender_ended b) (sender_done b) old new

-- its edge crosses where it did, and the same of its calls may allocate
abbrev pub SenderSameKind : {M T : Type 0} → Machine M T → Sender M T → Sender M T → Type 0
SenderSameKind b old new = IsSameKind is_crossing (sender_pop_allocates b) (sender_signal_allocates b) (sender_step_allocates b) old new

-- it got as far in the hub that it reads, and the same holds of it
abbrev pub SenderAlike : {M T : Type 0} → Machine M T → Sender M T → Sender M T → Type 0
SenderAlike b old new = StaysAlike (sender_reads b) is_crossing (sender_pop_allocates b) (sender_signal_allocates b) (sender_step_allocates b) old new

-- ---- and so it keeps their laws

pub sender_shows : {M T : Type 0} (b : Machine M T) (m : Meaning T) → Shows b m → (n : Sender M T) → sender_shown b n ≡ option_map front_of (sender_waiting b m n)
sender_shows b m shows (Direct n) = shows n
sender_shows b m shows (Crossing n) = queued_shows m n

abbrev pub IsAlike : {M T : Type 0} → Machine M T → Type 0
IsAlike {M} {T} b = (old : M) (s : Signal T) (new : M) → b.popped old s new → StaysAlike b.reads b.crosses b.pop_allocates b.signal_allocates b.step_allocates old new

pub sender_alike : {M T : Type 0} (b : Machine M T) → IsAlike b → (old : Sender M T) (s : Signal T) (new : Sender M T) → sender_popped b old s new → SenderAlike b old new
sender_alike b alike (Direct x) s (Direct y) h = let stays = alike x s y h in (stays.0, (refl, stays.1.1))
sender_alike b alike (Crossing x) s (Crossing y) h = queued_popped_alike b x s y h
sender_alike b alike (Direct x) s (Crossing y) h = absurd h
sender_alike b alike (Crossing x) s (Direct y) h = absurd h

pub sender_drops : {M T : Type 0} (b : Machine M T) (m : Meaning T) → Drops b m → (n : Sender M T) (inc other : Incoming T) (k : Note) → sender_ended b n ≡ true → sender_comes_out b m n inc k ≡ sender_comes_out b m n other k
sender_drops b m drops (Direct n) inc other k e = drops n inc other k e
sender_drops b m drops (Crossing n) inc other k e = queued_drops b m drops n inc other k e

pub sender_ends : {M T : Type 0} (b : Machine M T) (m : Meaning T) → Ends b m → (n : Sender M T) (s : Signal T) (inc other : Incoming T) (k : Note) → sender_waiting b m n ≡ Some s → ends_input s ≡ true → sender_comes_out b m n inc k ≡ sender_comes_out b m n other k
sender_ends b m ends (Direct n) s inc other k w e = ends n s inc other k w e
sender_ends b m ends (Crossing n) s inc other k w e = queued_ends b m n s inc other k w e

pub sender_done_drops : {M T : Type 0} (b : Machine M T) (m : Meaning T) → DoneDrops b m → (n : Sender M T) (hubs before after : List (Stream T)) (v w : Stream T) (k : Note) → sender_done b n (length before) ≡ true → sender_comes_out b m n (incoming_of hubs (before ++ v ∷ after)) k ≡ sender_comes_out b m n (incoming_of hubs (before ++ w ∷ after)) k
sender_done_drops b m drops (Direct n) hubs before after v w k d = drops n hubs before after v w k d
sender_done_drops b m drops (Crossing n) hubs before after v w k d = queued_done_drops b m drops n hubs before after v w k d

abbrev pub EndsReading : {M T : Type 0} → Machine M T → Meaning T → Type 0
EndsReading {M} {T} b m = (n : M) (s : Signal T) → b.waiting m n ≡ Some s → ends_input s ≡ true → b.reads n ≡ None

pub sender_ends_reading : {M T : Type 0} (b : Machine M T) (m : Meaning T) → EndsReading b m → (n : Sender M T) (s : Signal T) → sender_waiting b m n ≡ Some s → ends_input s ≡ true → sender_reads b n ≡ None
sender_ends_reading b m ends (Direct n) s w e = ends n s w e
sender_ends_reading b m ends (Crossing n) s w e = queued_ends_reading b m n s w e

pub sender_settles : {M T : Type 0} (b : Machine M T) (m : Meaning T) → Settles b m → (n : Sender M T) (inc : Incoming T) → (v : Stream T) × (sender_comes_out b m n inc (unchosen (sender_recorded b n)) ≡ Some v)
sender_settles b m settles (Direct n) inc = settles n inc
sender_settles b m settles (Crossing n) inc = queued_settles b m settles n inc

pub sender_ending_waits : {M T : Type 0} (b : Machine M T) (m : Meaning T) → Shows b m → Waits b m → (n : Sender M T) (asked sent : ℕ) → sender_ended b n ≡ true → sender_waiting b m n ≡ None → sent < asked → CanStep (sender_picks b) (sender_rows b) n asked sent
sender_ending_waits b m shows waits (Direct n) asked sent e none more = waits n asked sent e none more
sender_ending_waits b m shows waits (Crossing n) asked sent e none more = queued_ending_waits b m shows waits n asked sent e none more

pub sender_hungry : {M T : Type 0} (b : Machine M T) (m : Meaning T) → Shows b m → Hungers b m → (n : Sender M T) (took : List ℕ) (asked sent : ℕ) → sender_ended b n ≡ false → sender_counted b n took sent → sender_waiting b m n ≡ None → sent < asked → AreWithin took →
    IsHungry (sender_takes b) (sender_picks b) (sender_rows b) (sender_done b) (sender_wanted b) (sender_reads b) n took asked sent
sender_hungry b m shows hungers (Direct n) took asked sent going counted none more within = elim (hungers n took asked sent going counted none more within) [
  | inl k ↦ inl k
  | inr y ↦ elim y [
    | inl k ↦ inr (inl k)
    | inr z ↦ elim z [
      | inl k ↦ inr (inr (inl (record { i = k.i; c = k.c; at = k.at; open_still = k.open_still; takes_any = k.takes_any; wants = k.wants })))
      | inr r ↦ inr (inr (inr r))
    ]
  ]
]
sender_hungry b m shows hungers (Crossing n) took asked sent going counted none more within = elim (queued_hungry b m shows hungers n took asked sent going counted none more within) [
  | inl k ↦ inl k
  | inr y ↦ elim y [
    | inl k ↦ inr (inl k)
    | inr z ↦ elim z [
      | inl k ↦ inr (inr (inl (record { i = k.i; c = k.c; at = k.at; open_still = k.open_still; takes_any = k.takes_any; wants = k.wants })))
      | inr r ↦ inr (inr (inr r))
    ]
  ]
]

abbrev pub IsAskedEnough : {M T : Type 0} → Machine M T → Type 0
IsAskedEnough {M} b = (n : M) (asked sent : ℕ) → b.accepts n asked sent ≡ false → OffersWithin (b.shown n) asked sent

pub sender_enough : {M T : Type 0} (b : Machine M T) → IsAskedEnough b → (n : Sender M T) (asked sent : ℕ) → sender_accepts b n asked sent ≡ false → OffersWithin (sender_shown b n) asked sent
sender_enough b enough (Direct n) asked sent e = enough n asked sent e
sender_enough b enough (Crossing n) asked sent e = queued_enough n asked sent e
