-- The answer of an operator that can still go back, until the operators behind it have taken it.
use Rattle.std.specs.Prelude.{◌≡◌, ℕ, true, false, nat_le, if◌then◌else◌, List, [], ◌∷◌, length, Option, Some, None, Result, Ok, Err}
use Rattle.rsx_sources.specs.Prelude.{Ending, Open, Done, Failed, Meaning, Allocates, Stream}
use Rattle.rsx_plain.specs.State.{plain_from, is_over, allocates_from}
pub use Rattle.rsx_plain.specs.State.{without_last_from, without_last, last_from, last_of, committed, rolled_back, taken_back}
use Rattle.rsx_plain.specs.declared.state.PlainState.{PlainState}
use Rattle.rsx_plain.specs.Moves.{has_ended}
use Rattle.rsx_plain.specs.Emission.{emission_then}
use Rattle.rsx_plain.specs.declared.prepared.Emission.{Emission}
use Rattle.rsx_plain.specs.declared.prepared.Prepared.{Prepared}

-- the items that were gathered come out where the items are complete
abbrev pub list_at_end : {T : Type 0} → (List T → T) → List T → Ending → Option T
list_at_end list [] e = None
list_at_end list (x ∷ xs) Done = Some (list (x ∷ xs))
list_at_end list (x ∷ xs) Open = None
list_at_end list (x ∷ xs) (Failed c) = None

-- the items that were gathered come out where they are n or the items are complete
abbrev pub list_due : {T : Type 0} → (List T → T) → ℕ → List T → Ending → Option T
list_due list n xs e = if nat_le n (length xs) then Some (list xs) else list_at_end list xs e

-- the emission came in; once the answer is taken, what came out of the old state is the answer, and then what comes out of
-- the new one; once it is refused, all is as before; an ending of the input, or of an operator that is over, is answered
abbrev pub IsPrepared : {T : Type 0} → Meaning T → PlainState T → Emission T → PlainState T → Prepared T → Type 0
IsPrepared {T} m before p now a =
    ((v : Stream T) → plain_from m before (emission_then p v) ≡ emission_then a.answer (plain_from m (committed now a.pending) v))
    × (rolled_back now a.pending ≡ before)
    × (taken_back now a.pending a.answer.item ≡ p.item)
    × (has_ended p.ending ≡ true → has_ended a.answer.ending ≡ true)
    × (is_over (committed now a.pending) ≡ true → has_ended a.answer.ending ≡ true)

-- what came of an emission: it is answered, and the answer can still go back; or for want of memory nothing has changed
abbrev pub IsPreparation : {T E : Type 0} → Meaning T → Allocates → PlainState T → Emission T → Result (Prepared T) E → PlainState T → Type 0
IsPreparation m a before p (Ok answer) now = IsPrepared m before p now answer
IsPreparation m a before p (Err e) now = (now ≡ before) × (allocates_from a before ≡ false → ⊥)
