-- The place of the first wrong word of a text that is no trace: the first at which it could not be gone on with to a
-- trace, whatever stood behind. That is looked for among the lines first, and then among the words of the line found.
use Rattle.std.specs.Prelude.{◌≡◌, ℕ, ◌+◌, ◌-◌, ◌⊎◌, List, [], ◌∷◌, ◌++◌, length}
use Rattle.rsx_tck.specs.declared.event.Stamped.{Stamped}
use Rattle.rsx_tck.specs.declared.refusal.TraceRefusal.{TraceRefusal}
use Rattle.rsx_tck.specs.declared.refusal.TraceRefusal.TheVariants.{BadTrace, NoMemory}
use Rattle.rsx_tck.specs.Texts.{lines, words, bytes_from}
use Rattle.rsx_tck.specs.Grammar.{AreTrace}

-- Some right list begins with these items: it has more behind them, or none.
abbrev pub Begins : {X : Type 0} → (List X → Type 0) → List X → Type 0
Begins {X} right front = (more : List X) × right (front ++ more)

-- None begins with the items before and the next one. Where no next one is left, the items before are no right list.
abbrev pub Stops : {X : Type 0} → (List X → Type 0) → List X → List X → Type 0
Stops right before [] = ¬ right before
Stops right before (x ∷ rest) = ¬ Begins right (before ++ x ∷ [])

-- The items before can be gone on with to a right list, but not with the first of the rest, or for want of one.
pub record GoesWrong {X : Type 0} (right : List X → Type 0) (before rest : List X) : Type 0 where
  pub begins : Begins right before
  pub stops : Stops right before rest

-- A right line has these words.
abbrev pub HasWords : (List ℕ → Type 0) → List (List ℕ) → Type 0
HasWords right parts = (line : List ℕ) × right line × (words line ≡ parts)

-- The first wrong word of a line begins at this column, counted in bytes from 1. A word that is missing does so one
-- past the line's end.
pub record IsWrongWord (right : List ℕ → Type 0) (line : List ℕ) (column : ℕ) : Type 0 where
  pub before : List (List ℕ)
  pub rest : List (List ℕ)
  pub split : words line ≡ before ++ rest
  pub wrong : GoesWrong (HasWords right) before rest
  pub place : column ≡ length line - length (bytes_from rest) + 1

-- Some right lines begin with those before and this one.
abbrev pub MayFollow : (List (List ℕ) → Type 0) → List (List ℕ) → List ℕ → Type 0
MayFollow right before line = Begins right (before ++ line ∷ [])

-- The column is 1 where no line is left, and where none may stand there. Else it is that of the line's first wrong word.
abbrev pub IsColumn : (List (List ℕ) → Type 0) → List (List ℕ) → List (List ℕ) → ℕ → Type 0
IsColumn right before [] column = column ≡ 1
IsColumn right before (line ∷ rest) column = (((other : List ℕ) → ¬ MayFollow right before other) × (column ≡ 1)) ⊎ IsWrongWord (MayFollow right before) line column

-- The place is the number of the line at which these lines go wrong, counted from 1, and the column in it.
pub record IsWrongPlace (right : List (List ℕ) → Type 0) (parts : List (List ℕ)) (place : ℕ × ℕ) : Type 0 where
  pub before : List (List ℕ)
  pub rest : List (List ℕ)
  pub split : parts ≡ before ++ rest
  pub wrong : GoesWrong right before rest
  pub number : place.0 ≡ length before + 1
  pub column : IsColumn right before rest place.1

-- the lines of some trace
abbrev pub AreSomeTrace : List (List ℕ) → Type 0
AreSomeTrace parts = (events : List Stamped) × AreTrace parts events

abbrev pub IsFirstWrong : List ℕ → ℕ × ℕ → Type 0
IsFirstWrong text place = IsWrongPlace AreSomeTrace (lines text) place

-- a refusal, want of memory aside, names this place
abbrev pub NamesFirstWrong : List ℕ → TraceRefusal → Type 0
NamesFirstWrong text (BadTrace line column) = IsFirstWrong text (line, column)
NamesFirstWrong text NoMemory = Unit {0}
