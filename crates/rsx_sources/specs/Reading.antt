-- What a node that reads a hub has taken in of it.
use Rattle.std.specs.Prelude.{◌≡◌, ⊤, ℕ, zero, suc, ◌+◌, Bool, true, false, nat_eq, List, [], ◌∷◌, length, drop, Option, Some, None, slice_get}
use Rattle.rsx_types.specs.declared.note.Note.{Note}
use Rattle.rsx_types.specs.declared.signal.Ending.TheVariants.{Open, Done, Failed}
use Rattle.rsx_types.specs.declared.signal.Signal.{Signal}
use Rattle.rsx_types.specs.declared.signal.Signal.TheVariants.{Next, Complete, Error}
use Rattle.rsx_types.specs.Meaning.{Meaning}
use Rattle.rsx_types.specs.Stream.{Stream, ended_by}
use Rattle.rsx_types.specs.Notes.{note_then}
use Rattle.rsx_sources.specs.Machine.{Incoming, incoming_of}

-- The hub that a node reads, and how far into its value the node got: how many of its items it took in or missed. The last two are what
-- the node's counts begin with, and no call changes them: as it was made, it had missed so many items, and so many were sent already or in
-- its queue.
pub record Reading : Type 0 where
  pub hub : ℕ
  pub reached : ℕ
  pub missed : ℕ
  pub before : ℕ

-- whether a node reads this hub
abbrev pub reads_hub : ℕ → Option Reading → Bool
reads_hub h None = false
reads_hub h (Some r) = nat_eq r.hub h

-- the number of the hub that a node reads
abbrev pub hub_of : Reading → ℕ
hub_of r = r.hub

-- what of a reading stays as the node reads on: all but how far it got
pub record Origin : Type 0 where
  pub hub : ℕ
  pub missed : ℕ
  pub before : ℕ

abbrev pub origin_of : Reading → Origin
origin_of r = record { hub = r.hub; missed = r.missed; before = r.before }

-- whether a node takes in this signal of the hub that it reads: an ending needs no room
abbrev pub takes_published : {T : Type 0} → Option Reading → Bool → Signal T → Bool
takes_published None room s = false
takes_published (Some r) room (Next x) = room
takes_published (Some r) room Complete = true
takes_published (Some r) room (Error c) = true

-- where it stands after that; after an ending it reads no more
abbrev pub reading_after : {T : Type 0} → Signal T → Reading → Option Reading
reading_after (Next x) r = Some (record { hub = r.hub; reached = r.reached + 1; missed = r.missed; before = r.before })
reading_after Complete r = None
reading_after (Error c) r = None

-- this signal of the value w comes next for a node that reached so many items
abbrev pub IsNextAt : {T : Type 0} → ℕ → Stream T → Signal T → Type 0
IsNextAt n w (Next x) = slice_get w.items n ≡ Some x
IsNextAt n w Complete = (length w.items ≡ n) × (w.ending ≡ Done)
IsNextAt n w (Error c) = (length w.items ≡ n) × (w.ending ≡ Failed c)

-- the value of the hub with this number; nothing where there is none
abbrev pub published_at : {T : Type 0} → List (Stream T) → ℕ → Stream T
published_at [] h = ended_by Open
published_at (v ∷ vs) zero = v
published_at (v ∷ vs) (suc h) = published_at vs h

-- this signal of the hub comes next, where these are the whole values of all hubs
abbrev pub IsNextIn : {T : Type 0} → Reading → List (Stream T) → Signal T → Type 0
IsNextIn r hubs s = IsNextAt r.reached (published_at hubs r.hub) s

-- what a node has not taken in of the hub that it reads is what stands in that hub's inbox, where `hubs` are the whole values
-- of all hubs
abbrev pub IsBehind : {T : Type 0} → Option Reading → List (Stream T) → List (Stream T) → Type 0
IsBehind None inboxes hubs = ⊤
IsBehind (Some r) inboxes hubs = record { items = drop r.reached (published_at hubs r.hub).items; ending = (published_at hubs r.hub).ending } ≡ published_at inboxes r.hub

-- a signal of the hub that it reads was taken in: over all values in which that comes next, the same comes out as before
pub record IsReadOn {T S : Type 0} (comes_out : Meaning T → S → Incoming T → Note → Option (Stream T)) (reads : S → Option Reading) (old : S) (s : Signal T) (new : S) : Type 0 where
  pub reading : Reading
  pub read : reads old ≡ Some reading
  pub reads_on : reads new ≡ reading_after s reading
  pub value : (m : Meaning T) (inc : Incoming T) (further : Note) → IsNextIn reading inc.hubs s → comes_out m new inc further ≡ comes_out m old inc further

-- this comes out, where just these inboxes stand behind what the node took in of the hubs, just these values come in, and
-- nothing more is chosen
abbrev pub IsResidualOf : {T S : Type 0} → (S → Incoming T → Note → Option (Stream T)) → (S → Note) → (S → Option Reading) → S → List (Stream T) → List (Stream T) → Stream T → Type 0
IsResidualOf {T} comes_out recorded reads n inboxes incoming v =
    (hubs : List (Stream T)) (further : Note) → IsBehind (reads n) inboxes hubs → note_then (recorded n) further ≡ recorded n → comes_out n (incoming_of hubs incoming) further ≡ Some v
