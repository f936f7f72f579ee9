-- An item that goes through a node in one go, without waiting in it.
use Rattle.std.specs.Prelude.{◌≡◌, ◌⊎◌, ℕ, Bool, true, false, List, Option, Some, None}
use Rattle.rsx_types.specs.Notes.{note_then}
use Rattle.rsx_types.specs.declared.note.Note.{Note}
use Rattle.rsx_types.specs.declared.signal.Signal.{Signal}
use Rattle.rsx_types.specs.declared.signal.Signal.TheVariants.{Next}
use Rattle.rsx_types.specs.Stream.{Stream}
use Rattle.rsx_sources.specs.Counts.{CountsIn, CountsOut, CountsStep}
use Rattle.rsx_sources.specs.Machine.{Incoming, IsComposed, Keeps, LetsGo, Records, TakesIn, front_of}
use Rattle.rsx_sources.specs.declared.machine.Front.{Front}
use Rattle.rsx_sources.specs.declared.machine.Passed.{Passed}
use Rattle.rsx_sources.specs.declared.machine.Passed.TheVariants.{Item, Kept, Declined}

-- a signal of input i was taken in, and the node has not ended by it
pub record IsTakenIn {T S : Type 0} (comes_out : S → Incoming T → Note → Option (Stream T)) (takes : S → ℕ → Front → Bool) (recorded : S → Note) (counted : S → List ℕ → ℕ → Type 0) (ended : S → Bool) (done : S → ℕ → Bool) (old : S) (i : ℕ) (s : Signal T) (new : S) : Type 0 where
  pub enabled : takes old i (front_of s) ≡ true
  pub value : TakesIn comes_out old i s new
  pub notes : recorded new ≡ recorded old
  pub counts : CountsIn counted ended done old i s new
  pub goes_on : ended new ≡ false

-- the item that waited went out
pub record IsItemOut {T S : Type 0} (comes_out : S → Incoming T → Note → Option (Stream T)) (waiting : S → Option (Signal T)) (popped : S → Signal T → S → Type 0) (recorded : S → Note) (counted : S → List ℕ → ℕ → Type 0) (ended : S → Bool) (done : S → ℕ → Bool) (old : S) (x : T) (new : S) : Type 0 where
  pub waited : waiting old ≡ Some (Next x)
  pub popped_out : popped old (Next x) new
  pub value : LetsGo comes_out old (Next x) new
  pub notes : recorded new ≡ recorded old
  pub counts : CountsOut counted ended done old (Some (Next x)) new

-- a row was made
pub record IsRowDone {T S : Type 0} (comes_out : S → Incoming T → Note → Option (Stream T)) (rows : S → ℕ → ℕ → Bool) (rowed : S → ℕ → ℕ → S → Type 0) (recorded : S → Note) (counted : S → List ℕ → ℕ → Type 0) (ended : S → Bool) (done : S → ℕ → Bool) (old : S) (asked sent : ℕ) (new : S) : Type 0 where
  pub enabled : rows old asked sent ≡ true
  pub row : rowed old asked sent new
  pub value : Keeps comes_out old new
  pub notes : recorded new ≡ recorded old
  pub counts : CountsStep counted ended done old new

-- input i was picked, and the node recorded it
pub record IsPickDone {T S : Type 0} (comes_out : S → Incoming T → Note → Option (Stream T)) (picks : S → ℕ → ℕ → ℕ → Bool) (recording : S → ℕ → Note) (recorded : S → Note) (counted : S → List ℕ → ℕ → Type 0) (ended : S → Bool) (done : S → ℕ → Bool) (old : S) (i asked sent : ℕ) (new : S) : Type 0 where
  pub enabled : picks old i asked sent ≡ true
  pub value : Records comes_out old (recording old i) new
  pub notes : recorded new ≡ note_then (recorded old) (recording old i)
  pub composes : IsComposed (recorded old) (recording old i)
  pub counts : CountsStep counted ended done old new

-- some input was picked, or a row was made
abbrev pub IsStepDone : {T S : Type 0} → (S → Incoming T → Note → Option (Stream T)) → (S → ℕ → ℕ → ℕ → Bool) → (S → ℕ → ℕ → Bool) → (S → ℕ → ℕ → S → Type 0) → (S → ℕ → Note) → (S → Note) → (S → List ℕ → ℕ → Type 0) → (S → Bool) → (S → ℕ → Bool) → S → ℕ → ℕ → S → Type 0
IsStepDone comes_out picks rows rowed recording recorded counted ended done old asked sent new =
    ((i : ℕ) × IsPickDone comes_out picks recording recorded counted ended done old i asked sent new) ⊎ IsRowDone comes_out rows rowed recorded counted ended done old asked sent new

-- a pick or a row was made, and then the item that waited went out; or nothing has changed
abbrev pub IsSteppedOut : {T S : Type 0} → (S → Incoming T → Note → Option (Stream T)) → (S → Option (Signal T)) → (S → ℕ → ℕ → ℕ → Bool) → (S → ℕ → ℕ → Bool) → (S → ℕ → ℕ → S → Type 0) → (S → Signal T → S → Type 0) → (S → ℕ → Note) → (S → Note) → (S → List ℕ → ℕ → Type 0) → (S → Bool) → (S → ℕ → Bool) → S → ℕ → ℕ → Option T → S → Type 0
IsSteppedOut {T} {S} comes_out waiting picks rows rowed popped recording recorded counted ended done old asked sent (Some x) new =
    (mid : S) × IsStepDone comes_out picks rows rowed recording recorded counted ended done old asked sent mid × IsItemOut comes_out waiting popped recorded counted ended done mid x new
IsSteppedOut comes_out waiting picks rows rowed popped recording recorded counted ended done old asked sent None new = new ≡ old

-- what came of an item of input i: it was taken in, and what the node put out first went out of it again, an item; or
-- the node put out nothing for it; or it came back, and nothing has changed
abbrev pub IsPassed : {T S : Type 0} → (S → Incoming T → Note → Option (Stream T)) → (S → Option (Signal T)) → (S → ℕ → Front → Bool) → (S → Signal T → S → Type 0) → (S → Note) → (S → List ℕ → ℕ → Type 0) → (S → Bool) → (S → ℕ → Bool) → S → ℕ → T → Passed T → S → Type 0
IsPassed {T} {S} comes_out waiting takes popped recorded counted ended done old i x (Item y) new =
    (mid : S) × IsTakenIn comes_out takes recorded counted ended done old i (Next x) mid × IsItemOut comes_out waiting popped recorded counted ended done mid y new
IsPassed comes_out waiting takes popped recorded counted ended done old i x Kept new =
    IsTakenIn comes_out takes recorded counted ended done old i (Next x) new
IsPassed comes_out waiting takes popped recorded counted ended done old i x (Declined y) new = (y ≡ x) × (new ≡ old)
