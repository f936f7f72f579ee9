-- What a run over an input comes to: what it wrote, and where it stopped.
use Rattle.std.specs.Prelude.{◌≡◌, ℕ, ◌+◌, List, ◌++◌, length, Option}
use Rattle.std.specs.Io.KnownBytes.{Appends}
use Rattle.rsx_script.specs.declared.fault.AppFault.{AppFault}
use Rattle.rsx_script.specs.declared.fault.AppFault.TheVariants.{Line, Io, Memory}
use Rattle.rsx_script.specs.declared.words.LineRefusal.{LineRefusal}
use Rattle.rsx_script.specs.declared.words.LineRefusal.TheVariants.{NoMemory}

-- a text grew by some more, of which P holds
abbrev pub Grows : List ℕ → List ℕ → (List ℕ → Type 0) → Type 0
Grows old new P = (more : List ℕ) × (new ≡ old ++ more) × P more

-- what is refused, and why: after these lines, which were answered by this text, the others can't be read
abbrev pub Refuses : Type 1
Refuses = List (List ℕ) → List ℕ → List (List ℕ) → LineRefusal → Type 0

-- where the lines of an input are refused: behind the first ones, at the number that the first of the others has or would have
pub record IsRefused (refuses : Refuses) (all : List (List ℕ)) (text : List ℕ) (number : ℕ) (refusal : LineRefusal) : Type 0 where
  pub before : List (List ℕ)
  pub others : List (List ℕ)
  pub split : all ≡ before ++ others
  pub counted : number ≡ length before + 1
  pub refused : refuses before text others refusal

-- a text begins with this one
abbrev pub Begins : List ℕ → List ℕ → Type 0
Begins text whole = (rest : List ℕ) × (whole ≡ text ++ rest)

-- what was written begins what the lines before some line are answered by: of these answers the last ones may be missing, and
-- there is nothing else
pub record IsCut (refuses : Refuses) (all : List (List ℕ)) (text : List ℕ) : Type 0 where
  pub whole : List ℕ
  pub begun : Begins text whole
  pub number : ℕ
  pub refusal : LineRefusal
  pub answers : IsRefused refuses all whole number refusal

-- a run over these lines wrote this text, and ended with this fault; a read or a write may fail anywhere
abbrev pub IsStopped : Refuses → List (List ℕ) → List ℕ → AppFault → Type 0
IsStopped refuses all text (Line number refusal) = IsRefused refuses all text number refusal
IsStopped refuses all text Io = IsCut refuses all text
IsStopped refuses all text Memory = (number : ℕ) × IsRefused refuses all text number NoMemory

-- what a writer holds grew by a text of which P holds
abbrev pub Writes : Option (List ℕ) → Option (List ℕ) → (List ℕ → Type 0) → Type 0
Writes old new P = (text : List ℕ) × Appends old new text × P text
