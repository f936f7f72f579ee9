-- Worked cases of the identity whose failure may overtake items.
use Rattle.std.specs.Prelude.{◌≡◌, ℕ, [], ◌∷◌, Some, None}
use Rattle.rsx_types.specs.declared.signal.Cause.TheVariants.{User}
use Rattle.rsx_types.specs.declared.signal.Ending.{Ending}
use Rattle.rsx_types.specs.declared.signal.Ending.TheVariants.{Done, Failed}
use Rattle.rsx_types.specs.Stream.{Stream}
use Rattle.rsx_values.specs.Eager.{eager_of}

-- two items with this ending
abbrev pub two : Ending → Stream ℕ
two e = record { items = 1 ∷ 2 ∷ []; ending = e }

abbrev pub seven : Ending
seven = Failed (User 7)

-- with no choice, and with a choice for each item, all comes out
abbrev pub TakesAll : Type 0
TakesAll = eager_of [] (two seven) ≡ Some (two seven)

abbrev pub TakesEach : Type 0
TakesEach = eager_of (0 ∷ 0 ∷ []) (two seven) ≡ Some (two seven)

-- the failure overtakes the second item
abbrev pub Overtakes : Type 0
Overtakes = eager_of (0 ∷ 1 ∷ []) (two seven) ≡ Some (record { items = 1 ∷ []; ending = seven })

-- or both
abbrev pub OvertakesAll : Type 0
OvertakesAll = eager_of (1 ∷ []) (two seven) ≡ Some (record { items = []; ending = seven })

-- no choice takes a third item, a failure where there is none, or anything behind the failure
abbrev pub FindsNoItem : Type 0
FindsNoItem = eager_of (0 ∷ 0 ∷ 0 ∷ []) (two seven) ≡ None

abbrev pub FindsNoFailure : Type 0
FindsNoFailure = eager_of (0 ∷ 1 ∷ []) (two Done) ≡ None

abbrev pub NothingBehind : Type 0
NothingBehind = eager_of (1 ∷ 0 ∷ []) (two seven) ≡ None

-- nor is there a choice of another number
abbrev pub NoOtherChoice : Type 0
NoOtherChoice = eager_of (2 ∷ []) (two seven) ≡ None
