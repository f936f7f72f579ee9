-- What still comes out of a source of items.
use Rattle.std.specs.Prelude.{◌≡◌, ℕ, ◌<◌, List, ◌∷◌, length, Option, Some}
use Rattle.rsx_types.specs.declared.note.Note.{Note}
use Rattle.rsx_types.specs.declared.signal.Signal.{Signal}
use Rattle.rsx_types.specs.declared.signal.Signal.TheVariants.{Next, Complete, Error}
use Rattle.rsx_types.specs.Meaning.{Meaning}
use Rattle.rsx_types.specs.Plain.{listed}
use Rattle.rsx_types.specs.Stream.{Stream}
use Rattle.rsx_sources.specs.Machine.{Incoming, quiet, first_of, front_of}
use Rattle.rsx_sources.specs.declared.machine.Front.{Front}

-- the items that are left, and how many items there is memory for
pub record ItemsLeft (T : Type 0) : Type 0 where
  pub left : List T
  pub room : ℕ

-- the items that are left still come out, and then the completion
abbrev pub items_comes_out : {T : Type 0} → Meaning T → ItemsLeft T → Incoming T → Note → Option (Stream T)
items_comes_out m n inc further = quiet further (listed n.left)

-- these items come out, and then the completion
abbrev pub GivesItems : {T : Type 0} → ItemsLeft T → List T → Type 0
GivesItems {T} n items = (m : Meaning T) (inc : Incoming T) (further : Note) → items_comes_out m n inc further ≡ quiet further (listed items)

-- the next item waits, or else the completion
abbrev pub items_waiting : {T : Type 0} → Meaning T → ItemsLeft T → Option (Signal T)
items_waiting m n = Some (first_of n.left)

-- which of the two it is
abbrev pub items_shown : {T : Type 0} → ItemsLeft T → Option Front
items_shown n = Some (front_of (first_of n.left))

-- an item leaves the list, and there is memory to put it back; the completion leaves all as it is
abbrev pub items_popped : {T : Type 0} → ItemsLeft T → Signal T → ItemsLeft T → Type 0
items_popped old (Next x) new = (old.left ≡ x ∷ new.left) × (new.room ≡ old.room) × (length new.left < new.room)
items_popped old Complete new = new ≡ old
items_popped old (Error c) new = ⊥
