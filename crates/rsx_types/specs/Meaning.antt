-- What a caller's functions mean, want of memory aside.
use Rattle.std.specs.Prelude.{◌≡◌, ℕ, ℤ, ◌≤◌, Bool, false, List, length, Result, Ok, Err, ⊤, Vec, vec_items}
use Rattle.rsx_types.specs.declared.fault.Fault.{Fault}
use Rattle.rsx_types.specs.declared.fault.Fault.TheVariants.{Code, Memory}
use Rattle.rsx_types.specs.declared.limits.TheConstants.{MOST_ITEMS}

-- the answer of each function, or the number of its fault
pub record Meaning (Item : Type 0) : Type 0 where
  pub mapped : ℕ → Item → Result Item ℕ
  pub tested : ℕ → Item → Result Bool ℕ
  pub folded : ℕ → Item → Item → Result Item ℕ
  pub keyed : ℕ → Item → Result ℕ ℕ
  pub expanded : ℕ → Item → Result (List Item) ℕ
  pub row_of : List Item → Item
  pub list_of : List Item → Item
  pub tagged : ℕ → Item → Item
  pub number : ℤ → Item

-- an answer that a meaning allows
abbrev pub Answers : {A : Type 0} → Result A Fault → Result A ℕ → Type 0
Answers (Ok y) m = m ≡ Ok y
Answers (Err (Code c)) m = m ≡ Err c
Answers (Err Memory) m = ⊤

-- what every meaning keeps
abbrev pub IsSmallFault : {A : Type 0} → Result A ℕ → Type 0
IsSmallFault (Ok _) = ⊤
IsSmallFault (Err c) = c ≤ 4294967294

abbrev pub IsSmallList : {A : Type 0} → Result (List A) ℕ → Type 0
IsSmallList (Ok ys) = length ys ≤ MOST_ITEMS
IsSmallList (Err c) = c ≤ 4294967294

pub record IsLawful (Item : Type 0) (m : Meaning Item) : Type 0 where
  pub map_fault : (f : ℕ) (x : Item) → IsSmallFault (m.mapped f x)
  pub test_fault : (f : ℕ) (x : Item) → IsSmallFault (m.tested f x)
  pub fold_fault : (f : ℕ) (a x : Item) → IsSmallFault (m.folded f a x)
  pub key_fault : (f : ℕ) (x : Item) → IsSmallFault (m.keyed f x)
  pub expansion : (f : ℕ) (x : Item) → IsSmallList (m.expanded f x)

-- the same for an answer that is a `Vec`
abbrev pub AnswersList : {A Z : Type 0} → Result (Vec A Z) Fault → Result (List A) ℕ → Type 0
AnswersList (Ok v) m = m ≡ Ok (vec_items v)
AnswersList (Err (Code c)) m = m ≡ Err c
AnswersList (Err Memory) m = ⊤

-- which of a caller's functions may allocate, and so may answer want of memory
pub record Allocates : Type 0 where
  pub mapped : Bool
  pub tested : Bool
  pub folded : Bool
  pub keyed : Bool
  pub expanded : Bool
  pub row_of : Bool
  pub list_of : Bool
  pub tagged : Bool
  pub copied : Bool
  pub number : Bool

-- none of them
abbrev pub none_allocates : Allocates
none_allocates = record { mapped = false; tested = false; folded = false; keyed = false; expanded = false; row_of = false; list_of = false; tagged = false; copied = false; number = false }
