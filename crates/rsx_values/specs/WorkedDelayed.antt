-- Worked cases of a merge that delays failures.
use Rattle.std.specs.Prelude.{◌≡◌, ℕ, List, [], ◌∷◌, Some, None}
use Rattle.rsx_types.specs.declared.signal.Cause.TheVariants.{User}
use Rattle.rsx_types.specs.declared.signal.Ending.{Ending}
use Rattle.rsx_types.specs.declared.signal.Ending.TheVariants.{Open, Done, Failed}
use Rattle.rsx_types.specs.Stream.{Stream}
use Rattle.rsx_values.specs.Delayed.{merge_delay}

abbrev pub stream : List ℕ → Ending → Stream ℕ
stream xs e = record { items = xs; ending = e }

-- one value without items, which fails with 7, and one that fails with 8
abbrev pub two_failures : List (Stream ℕ)
two_failures = stream [] (Failed (User 7)) ∷ stream [] (Failed (User 8)) ∷ []

-- one value that fails behind its item, and one with two items and this ending
abbrev pub one_failure : Ending → List (Stream ℕ)
one_failure e = stream (1 ∷ []) (Failed (User 7)) ∷ stream (5 ∷ 6 ∷ []) e ∷ []

-- the failure is behind the items of the other value
abbrev pub FailsLast : Type 0
FailsLast = merge_delay [] (one_failure Done) ≡ Some (stream (1 ∷ 5 ∷ 6 ∷ []) (Failed (User 7)))

-- choices may follow it
abbrev pub GoesOn : Type 0
GoesOn = merge_delay (1 ∷ 0 ∷ 0 ∷ 1 ∷ []) (one_failure Done) ≡ Some (stream (5 ∷ 1 ∷ 6 ∷ []) (Failed (User 7)))

-- it is held back as long as the other value is open
abbrev pub StaysOpen : Type 0
StaysOpen = merge_delay (0 ∷ 0 ∷ []) (one_failure Open) ≡ Some (stream (1 ∷ 5 ∷ 6 ∷ []) Open)

-- of two failures the one that was taken first goes out: the first value's where nothing is chosen
abbrev pub FailsFirst : Type 0
FailsFirst = merge_delay [] two_failures ≡ Some (stream [] (Failed (User 7)))

-- and else the one that is chosen first
abbrev pub FailsChosen : Type 0
FailsChosen = merge_delay (1 ∷ []) two_failures ≡ Some (stream [] (Failed (User 8)))

-- a value that has failed can't be chosen again
abbrev pub EndsItsInput : Type 0
EndsItsInput = merge_delay (0 ∷ 0 ∷ []) two_failures ≡ None
