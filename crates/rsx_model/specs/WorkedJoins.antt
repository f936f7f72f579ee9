-- Worked cases, in which an item is a list of numbers and a row joins the items.
use Rattle.std.specs.Prelude.{◌≡◌, ℕ, List, [], ◌∷◌, ◌++◌, Some, None}
use Rattle.rsx_types.specs.declared.signal.Cause.TheVariants.{User}
use Rattle.rsx_types.specs.declared.signal.Ending.{Ending}
use Rattle.rsx_types.specs.declared.signal.Ending.TheVariants.{Open, Done, Failed}
use Rattle.rsx_types.specs.Stream.{Stream}
use Rattle.rsx_values.specs.Latest.{combine_latest}
use Rattle.rsx_values.specs.UntilStop.{latest_until_stop}
use Rattle.rsx_values.specs.Zip.{zip}

abbrev pub joined : List (List ℕ) → List ℕ
joined [] = []
joined (xs ∷ ls) = xs ++ joined ls

-- an item that is one number
abbrev pub one : ℕ → List ℕ
one x = x ∷ []

abbrev pub two : ℕ → ℕ → List ℕ
two x y = x ∷ y ∷ []

abbrev pub stream : List (List ℕ) → Ending → Stream (List ℕ)
stream xs e = record { items = xs; ending = e }

-- zip of `items 1 2` and `range 5 3`: the shorter one ends it
abbrev pub ZipsShorter : Type 0
ZipsShorter =
    zip joined None (stream (one 1 ∷ one 2 ∷ []) Done ∷ stream (one 5 ∷ one 6 ∷ one 7 ∷ []) Done ∷ [])
    ≡ Some (stream (two 1 5 ∷ two 2 6 ∷ []) Done)

-- zip of 1 2 and the completion with 5 and a failure: the second one's items are used up, and so it fails
abbrev pub ZipsFailure : Type 0
ZipsFailure =
    zip joined (Some 1) (stream (one 1 ∷ one 2 ∷ []) Done ∷ stream (one 5 ∷ []) (Failed (User 7)) ∷ [])
    ≡ Some (stream (two 1 5 ∷ []) (Failed (User 7)))

-- the same with the first one recorded: it has an item left
abbrev pub ZipsNoOther : Type 0
ZipsNoOther =
    zip joined (Some 0) (stream (one 1 ∷ one 2 ∷ []) Done ∷ stream (one 5 ∷ []) (Failed (User 7)) ∷ []) ≡ None

-- where two have ended alike, the first one's ending counts unless the other is recorded
abbrev pub ZipsFirstEnding : Type 0
ZipsFirstEnding =
    (zip joined None (stream (one 1 ∷ []) Done ∷ stream (one 5 ∷ []) (Failed (User 7)) ∷ []) ≡ Some (stream (two 1 5 ∷ []) Done))
    × (zip joined (Some 1) (stream (one 1 ∷ []) Done ∷ stream (one 5 ∷ []) (Failed (User 7)) ∷ []) ≡ Some (stream (two 1 5 ∷ []) (Failed (User 7))))

-- while no value has ended with all its items used, the rows are Open, and no ending can be recorded
abbrev pub ZipsOpen : Type 0
ZipsOpen =
    (zip joined None (stream (one 1 ∷ one 2 ∷ []) Done ∷ stream (one 5 ∷ []) Open ∷ []) ≡ Some (stream (two 1 5 ∷ []) Open))
    × (zip joined (Some 1) (stream (one 1 ∷ one 2 ∷ []) Done ∷ stream (one 5 ∷ []) Open ∷ []) ≡ None)
    × (zip joined (Some 2) (stream (one 1 ∷ []) Done ∷ stream (one 5 ∷ []) Done ∷ []) ≡ None)

-- combineLatest of one item each, input by input: a row stands at the second one's item
abbrev pub CombinesBoth : Type 0
CombinesBoth =
    combine_latest joined [] (stream (one 1 ∷ []) Done ∷ stream (one 2 ∷ []) Done ∷ []) ≡ Some (stream (two 1 2 ∷ []) Done)

-- one input completes without any item, and that ends it, whatever the other has; a choice behind that has only to find a signal
abbrev pub CombinesUpTo : Type 0
CombinesUpTo =
    (combine_latest joined [] (stream (one 1 ∷ []) Open ∷ stream [] Done ∷ []) ≡ Some (stream [] Done))
    × (combine_latest joined (1 ∷ []) (stream (one 1 ∷ []) Open ∷ stream [] Done ∷ []) ≡ Some (stream [] Done))
    × (combine_latest joined (1 ∷ 0 ∷ []) (stream (one 1 ∷ []) Open ∷ stream [] Done ∷ []) ≡ Some (stream [] Done))
    × (combine_latest joined (1 ∷ 0 ∷ 0 ∷ []) (stream (one 1 ∷ []) Open ∷ stream [] Done ∷ []) ≡ None)

-- with nothing chosen behind it, as a node chooses, that choice makes the value none, and else it is the same
abbrev pub CombinesUntilStop : Type 0
CombinesUntilStop =
    (latest_until_stop joined (1 ∷ []) (stream (one 1 ∷ []) Open ∷ stream [] Done ∷ []) ≡ Some (stream [] Done))
    × (latest_until_stop joined (1 ∷ 0 ∷ []) (stream (one 1 ∷ []) Open ∷ stream [] Done ∷ []) ≡ None)

-- the choices say which latest items meet
abbrev pub CombinesChosen : Type 0
CombinesChosen =
    (combine_latest joined (0 ∷ 1 ∷ 0 ∷ []) (stream (one 1 ∷ one 3 ∷ []) Open ∷ stream (one 2 ∷ one 4 ∷ []) (Failed (User 7)) ∷ []) ≡ Some (stream (two 1 2 ∷ two 3 2 ∷ two 3 4 ∷ []) (Failed (User 7))))
    × (combine_latest joined (0 ∷ 0 ∷ 0 ∷ []) (stream (one 1 ∷ one 3 ∷ []) Open ∷ stream (one 2 ∷ one 4 ∷ []) (Failed (User 7)) ∷ []) ≡ None)
