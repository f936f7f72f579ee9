-- How the answers of a node's calls are read.
use Rattle.std.specs.Prelude.{◌≡◌, Bool, true, false, Option, Some, None}
use Rattle.rsx_types.specs.declared.note.Note.{Note}
use Rattle.rsx_types.specs.declared.signal.Signal.{Signal}
use Rattle.rsx_types.specs.Meaning.{Allocates}
use Rattle.rsx_types.specs.Stream.{Stream}
use Rattle.rsx_sources.specs.Machine.{Incoming, LetsGo}
use Rattle.rsx_sources.specs.Reading.{Reading}
use Rattle.rsx_sources.specs.declared.machine.NotTaken.{NotTaken}
use Rattle.rsx_sources.specs.declared.machine.NotTaken.TheVariants.{Busy, NoMemory}
use Rattle.rsx_sources.specs.declared.machine.NotMade.{NotMade}
use Rattle.rsx_sources.specs.declared.machine.NotMade.TheVariants.{NotEnabled, NoMemory as OutOfMemory}

-- what was popped is the signal that waited; where none did, the node is as it was
abbrev pub IsPopped : {T S : Type 0} → (S → Incoming T → Note → Option (Stream T)) → (S → Signal T → S → Type 0) → Option (Signal T) → S → Option (Signal T) → S → Type 0
IsPopped comes_out popped w old None new = (w ≡ None) × (new ≡ old)
IsPopped comes_out popped w old (Some s) new = (w ≡ Some s) × popped old s new × LetsGo comes_out old s new

-- its edge crosses where it did, and the same calls may allocate
abbrev pub IsSameKind : {S : Type 0} → (S → Bool) → (Allocates → S → Bool) → (Allocates → S → Bool) → (Allocates → S → Bool) → S → S → Type 0
IsSameKind crosses pops signals steps old new = (crosses new ≡ crosses old) × ((a : Allocates) → (pops a new ≡ pops a old) × (signals a new ≡ signals a old) × (steps a new ≡ steps a old))

-- what it has taken in of the hub that it reads stays, and so does what no call of a node changes
abbrev pub StaysAlike : {S : Type 0} → (S → Option Reading) → (S → Bool) → (Allocates → S → Bool) → (Allocates → S → Bool) → (Allocates → S → Bool) → S → S → Type 0
StaysAlike reads crosses pops signals steps old new = (reads new ≡ reads old) × IsSameKind crosses pops signals steps old new

-- the signal came back, and the node was busy exactly where it says so
abbrev pub IsNotTaken : {T : Type 0} → Bool → Signal T → NotTaken T → Type 0
IsNotTaken can s (Busy t) = (t ≡ s) × (can ≡ false)
IsNotTaken can s (NoMemory t) = (t ≡ s) × (can ≡ true)

-- a step was not enabled exactly where the answer says so
abbrev pub IsNotMade : Bool → NotMade → Type 0
IsNotMade can NotEnabled = can ≡ false
IsNotMade can OutOfMemory = can ≡ true
