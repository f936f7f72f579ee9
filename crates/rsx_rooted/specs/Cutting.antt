-- What a cut and a join read off the nodes of a tree.
use Rattle.std.specs.Prelude.{◌≡◌, Bool, true, false, List, [], ◌∷◌, Option, Some, None}
use Rattle.rsx_rooted.specs.Flow.{Holds}
use Rattle.rsx_sources.specs.Prelude.{Meaning, Ending, Open, Done, Failed, Signal, Complete, Error}
use Rattle.rsx_sources.specs.declared.machine.Machine.{Ghosts as Machine}

-- the items, where there are any
abbrev pub items_of : {T : Type 0} → Option (List T) → List T
items_of None = []
items_of (Some items) = items

abbrev pub is_some : {A : Type 0} → Option A → Bool
is_some None = false
is_some (Some a) = true

-- the signal of an ending
abbrev pub endings : {T : Type 0} → Ending → List (Signal T)
endings Open = []
endings Done = Complete ∷ []
endings (Failed c) = Error c ∷ []

-- the ending, where there is one
abbrev pub ending_of : Option Ending → Ending
ending_of None = Open
ending_of (Some e) = e

-- the node x is the node n with these signals in front, the last of which is the ending that n has let go. It has ended and reads nothing
pub record HoldsEnding {M T : Type 0} (b : Machine M T) (m : Meaning T) (x : M) (q : List (Signal T)) (n : M) : Type 0 where
  pub holds : Holds b m x q n
  pub reads : b.reads x ≡ None
  pub ended : b.ended x ≡ true
