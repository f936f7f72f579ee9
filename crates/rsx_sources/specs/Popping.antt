-- A signal that goes out of a node which records it as it goes, or doesn't.
use Rattle.std.specs.Prelude.{◌≡◌, ⊤, ℕ, Bool, false, List, Option, Some, None}
use Rattle.rsx_types.specs.Notes.{note_then}
use Rattle.rsx_types.specs.declared.note.Note.{Note}
use Rattle.rsx_types.specs.declared.signal.Signal.{Signal}
use Rattle.rsx_types.specs.declared.signal.Signal.TheVariants.{Next}
use Rattle.rsx_types.specs.Stream.{Stream}
use Rattle.rsx_sources.specs.Counts.{CountsOut, ends_input}
use Rattle.rsx_sources.specs.Machine.{Incoming, IsComposed, LetsGo, Records}
use Rattle.rsx_sources.specs.Passed.{IsItemOut}
use Rattle.rsx_sources.specs.Steps.{IsPopped}

-- the node recorded what goes with the signal that it offers, and goes on
pub record IsReady {T S : Type 0} (comes_out : S → Incoming T → Note → Option (Stream T)) (recorded : S → Note) (ended : S → Bool) (old : S) (note : Note) (ready : S) : Type 0 where
  pub value : Records comes_out old note ready
  pub notes : recorded ready ≡ note_then (recorded old) note
  pub composes : IsComposed (recorded old) note
  pub goes_on : ended ready ≡ false

-- the signal that waited went out, an item, and the node recorded the note with it
pub record IsPoppedNoting {T S : Type 0} (comes_out : S → Incoming T → Note → Option (Stream T)) (popped : S → Signal T → S → Type 0) (recorded : S → Note) (ended : S → Bool) (note : Note) (waits : Option (Signal T)) (old : S) (s : Signal T) (new : S) : Type 0 where
  pub waited : waits ≡ Some s
  pub item : ends_input s ≡ false
  pub popped_out : popped old s new
  pub ready : S
  pub noted : IsReady comes_out recorded ended old note ready
  pub value : LetsGo comes_out ready s new
  pub notes : recorded new ≡ recorded ready

-- what was popped is the signal that waited, and the node recorded it where there is a note; where none waited, the node is as it was
abbrev pub IsPoppedBy : {T S : Type 0} → (S → Incoming T → Note → Option (Stream T)) → (S → Signal T → S → Type 0) → (S → Note) → (S → Bool) → Option Note → Option (Signal T) → S → Option (Signal T) → S → Type 0
IsPoppedBy comes_out popped recorded ended None w old o new = IsPopped comes_out popped w old o new
IsPoppedBy comes_out popped recorded ended (Some k) w old None new = (w ≡ None) × (new ≡ old)
IsPoppedBy comes_out popped recorded ended (Some k) w old (Some s) new = IsPoppedNoting comes_out popped recorded ended k w old s new

-- what a node recorded stays where there is no note
abbrev pub IsRecordedBy : Option Note → Note → Note → Type 0
IsRecordedBy None was is = is ≡ was
IsRecordedBy (Some k) was is = ⊤

-- the item that waited went out, and the node recorded it where there is a note
abbrev pub IsItemOutBy : {T S : Type 0} → (S → Incoming T → Note → Option (Stream T)) → (S → Option (Signal T)) → (S → Signal T → S → Type 0) → (S → Note) → (S → List ℕ → ℕ → Type 0) → (S → Bool) → (S → ℕ → Bool) → Option Note → S → T → S → Type 0
IsItemOutBy comes_out waiting popped recorded counted ended done None old x new = IsItemOut comes_out waiting popped recorded counted ended done old x new
IsItemOutBy comes_out waiting popped recorded counted ended done (Some k) old x new =
    IsPoppedNoting comes_out popped recorded ended k (waiting old) old (Next x) new × CountsOut counted ended done old (Some (Next x)) new
