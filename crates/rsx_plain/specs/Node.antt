-- What still comes out of a plain operator with its out slot.
use Rattle.std.specs.Prelude.{◌≡◌, ℕ, ◌+◌, ◌<◌, ◌==◌, false, ◌&&◌, Bool, List, [], ◌∷◌, length, slice_get, Option, option_map}
use Rattle.rsx_sources.specs.Prelude.{Note, Signal, Stage, Meaning, Allocates, plain, Stream, signals_then, Incoming, quiet, front_of, is_nil}
use Rattle.rsx_sources.specs.declared.machine.Front.{Front}
use Rattle.rsx_plain.specs.declared.node.PlainNode.{PlainNode}
use Rattle.rsx_plain.specs.Moves.{has_ending}
use Rattle.rsx_plain.specs.State.{plain_from, wanted_from, allocates_from, balanced, is_over}
pub use Rattle.rsx_plain.specs.State.{start_slot}

-- what stands in the slot, and then the operator of what comes in
abbrev pub plain_comes_out : {T : Type 0} → Meaning T → PlainNode T → Incoming T → Note → Option (Stream T)
plain_comes_out m n inc further = quiet further (signals_then n.slot (plain_from m n.state inc.first))

-- what comes out is the operator of what comes in
abbrev pub GivesOperator : {T : Type 0} → PlainNode T → Stage T → Type 0
GivesOperator {T} n stage = (m : Meaning T) (inc : Incoming T) (further : Note) → plain_comes_out m n inc further ≡ quiet further (plain m stage inc.first)

-- what comes in doesn't matter to what comes out
abbrev pub NeedsNothing : {T : Type 0} → PlainNode T → Type 0
NeedsNothing {T} n = (m : Meaning T) (inc other : Incoming T) (further : Note) → plain_comes_out m n inc further ≡ plain_comes_out m n other further

-- the oldest signal of the slot waits
abbrev pub plain_waiting : {T : Type 0} → Meaning T → PlainNode T → Option (Signal T)
plain_waiting m n = slice_get n.slot 0

-- which signal that is
abbrev pub plain_shown : {T : Type 0} → PlainNode T → Option Front
plain_shown n = option_map front_of (slice_get n.slot 0)

-- a signal of the one input is taken where the slot is empty
abbrev pub plain_takes : {T : Type 0} → PlainNode T → ℕ → Bool
plain_takes n input = (input == 0) && is_nil n.slot

-- what is asked of the input is what its state wants
abbrev pub plain_wanted : {T : Type 0} → PlainNode T → ℕ → ℕ → ℕ → ℕ
plain_wanted n input asked sent = wanted_from n.state asked sent

-- the oldest signal leaves the slot
abbrev pub plain_popped : {T : Type 0} → PlainNode T → Signal T → PlainNode T → Type 0
plain_popped old s new = (old.slot ≡ s ∷ new.slot) × (old.state ≡ new.state) × (length new.slot < 2)

-- whether an ending stands in the slot, in front or behind an item
abbrev pub plain_ended : {T : Type 0} → PlainNode T → Bool
plain_ended n = has_ending n.slot

-- whether taking a signal may allocate
abbrev pub plain_allocates : {T : Type 0} → Allocates → PlainNode T → Bool
plain_allocates a n = allocates_from a n.state

-- while the slot has no ending: how many items came in and how many were put out
abbrev pub plain_counted : {T : Type 0} → PlainNode T → List ℕ → ℕ → Type 0
plain_counted n taken sent = (c : ℕ) × (taken ≡ c ∷ []) × (is_over n.state ≡ false) × balanced n.state c (sent + length n.slot)
