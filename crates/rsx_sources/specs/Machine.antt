-- What every node promises: what still comes out of it, given what still comes in and what is still chosen.
use Rattle.std.specs.Prelude.{◌≡◌, ℕ, zero, suc, List, [], ◌∷◌, Option, Some, None, option_map}
use Rattle.rsx_types.specs.declared.signal.Ending.TheVariants.{Open}
use Rattle.rsx_types.specs.declared.signal.Signal.{Signal}
use Rattle.rsx_types.specs.declared.signal.Signal.TheVariants.{Next, Complete, Error}
use Rattle.rsx_types.specs.declared.note.Note.{Note}
use Rattle.rsx_types.specs.declared.note.Note.TheVariants.{Nothing, Picks, Ended}
use Rattle.rsx_types.specs.Stream.{Stream, ended_by, signal_then}
use Rattle.rsx_types.specs.Notes.{note_then}
use Rattle.rsx_sources.specs.declared.machine.Front.{Front}
use Rattle.rsx_sources.specs.declared.machine.Front.TheVariants.{Item, Completion, Failure}

-- what still comes in: what is still published at each hub, the value of input 0, and those of the inputs behind it
pub record Incoming (T : Type 0) : Type 0 where
  pub hubs : List (Stream T)
  pub first : Stream T
  pub others : List (Stream T)

-- this is still published, and these values come in; where none is named, nothing comes
abbrev pub incoming_of : {T : Type 0} → List (Stream T) → List (Stream T) → Incoming T
incoming_of hubs [] = record { hubs = hubs; first = ended_by Open; others = [] }
incoming_of hubs (v ∷ vs) = record { hubs = hubs; first = v; others = vs }

-- a signal in front of the value with the number i; nothing else comes at an input that has no value
abbrev pub in_front_at : {T : Type 0} → ℕ → Signal T → List (Stream T) → List (Stream T)
in_front_at zero s [] = signal_then s (ended_by Open) ∷ []
in_front_at (suc i) s [] = ended_by Open ∷ in_front_at i s []
in_front_at zero s (v ∷ vs) = signal_then s v ∷ vs
in_front_at (suc i) s (v ∷ vs) = v ∷ in_front_at i s vs

-- a signal in front of what still comes in at input i
abbrev pub in_front : {T : Type 0} → ℕ → Signal T → Incoming T → Incoming T
in_front zero s inc = record { hubs = inc.hubs; first = signal_then s inc.first; others = inc.others }
in_front (suc i) s inc = record { hubs = inc.hubs; first = inc.first; others = in_front_at i s inc.others }

-- which signal waits
abbrev pub front_of : {T : Type 0} → Signal T → Front
front_of (Next x) = Item
front_of Complete = Completion
front_of (Error c) = Failure c

-- a node that records nothing has a value only where nothing is chosen
abbrev pub quiet : {A : Type 0} → Note → A → Option A
quiet Nothing v = Some v
quiet (Picks cs) v = None
quiet (Ended o) v = None

-- what is recorded after two notes is recorded after the first and what stands behind it
abbrev pub IsComposed : Note → Note → Type 0
IsComposed n k = (further : Note) → note_then (note_then n k) further ≡ note_then n (note_then k further)

-- what came out of `old` comes out of `new`
abbrev pub Keeps : {T S : Type 0} → (S → Incoming T → Note → Option (Stream T)) → S → S → Type 0
Keeps {T} comes_out old new = (inc : Incoming T) (further : Note) → comes_out new inc further ≡ comes_out old inc further

-- what comes out of `new` is what comes out of `old` where the signal comes in first at input i
abbrev pub TakesIn : {T S : Type 0} → (S → Incoming T → Note → Option (Stream T)) → S → ℕ → Signal T → S → Type 0
TakesIn {T} comes_out old i s new =
    (inc : Incoming T) (further : Note) → comes_out new inc further ≡ comes_out old (in_front i s inc) further

-- what comes out of `new` is what comes out of `old` where `note` is chosen first
abbrev pub Records : {T S : Type 0} → (S → Incoming T → Note → Option (Stream T)) → S → Note → S → Type 0
Records {T} comes_out old note new =
    (inc : Incoming T) (further : Note) → comes_out new inc further ≡ comes_out old inc (note_then note further)

-- the signal s comes out of `old` first, and then what comes out of `new`
abbrev pub LetsGo : {T S : Type 0} → (S → Incoming T → Note → Option (Stream T)) → S → Signal T → S → Type 0
LetsGo {T} comes_out old s new =
    (inc : Incoming T) (further : Note) → comes_out old inc further ≡ option_map (signal_then s) (comes_out new inc further)

-- the first signal of a list of items and the completion
abbrev pub first_of : {T : Type 0} → List T → Signal T
first_of [] = Complete
first_of (x ∷ xs) = Next x
