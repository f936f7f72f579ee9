-- Worked cases of a flatMap that delays failures, in which an item is a list of numbers.
use Rattle.std.specs.Prelude.{◌≡◌, ℕ, ◌+◌, nat_lt, if◌then◌else◌, List, [], ◌∷◌, Ok, Err, Some, None}
use Rattle.rsx_types.specs.declared.signal.Cause.TheVariants.{User, Function}
use Rattle.rsx_types.specs.declared.signal.Ending.{Ending}
use Rattle.rsx_types.specs.declared.signal.Ending.TheVariants.{Open, Done, Failed}
use Rattle.rsx_types.specs.declared.stage.Stage.TheVariants.{Map}
use Rattle.rsx_types.specs.Meaning.{Meaning}
use Rattle.rsx_types.specs.Stream.{Stream}
use Rattle.rsx_values.specs.WorkedLanes.{number_of, numbers, one, stream}
use Rattle.rsx_values.specs.declared.limits.TheConstants.{MAIN}
use Rattle.rsx_values.specs.Flat.{flat_map_delay}

-- an item is expanded to itself, twice; a map adds 1, and has a fault at the greatest number
abbrev pub twice : Meaning (List ℕ)
twice = record numbers {
  mapped = λ f x. if nat_lt (number_of x) 9223372036854775807 then Ok (one (number_of x + 1)) else Err 1;
  expanded = λ f x. Ok (x ∷ x ∷ []);
}

-- two items, of which the lane of the first has a fault at its first item
abbrev pub two_items : Ending → Stream (List ℕ)
two_items e = stream (9223372036854775807 ∷ 4 ∷ []) e

-- the failure of a lane comes behind the items of the others
abbrev pub LaneFailsLast : Type 0
LaneFailsLast = flat_map_delay twice 2 (Map 1 ∷ []) [] (two_items Done) ≡ Some (stream (5 ∷ 5 ∷ []) (Failed (Function 1)))

-- choices may follow it
abbrev pub LanesGoOn : Type 0
LanesGoOn = flat_map_delay twice 2 (Map 1 ∷ []) (0 ∷ 1 ∷ 1 ∷ MAIN ∷ []) (two_items Done) ≡ Some (stream (5 ∷ 5 ∷ []) (Failed (Function 1)))

-- it is held back as long as the input is open
abbrev pub LaneIsHeld : Type 0
LaneIsHeld = flat_map_delay twice 2 (Map 1 ∷ []) (0 ∷ []) (two_items Open) ≡ Some (stream (5 ∷ 5 ∷ []) Open)

-- of the failures of a lane and of the input the one that was taken first goes out
abbrev pub FirstTakenFails : Type 0
FirstTakenFails =
    (flat_map_delay twice 2 (Map 1 ∷ []) [] (two_items (Failed (User 7))) ≡ Some (stream (5 ∷ 5 ∷ []) (Failed (Function 1))))
    × (flat_map_delay twice 2 (Map 1 ∷ []) (MAIN ∷ []) (two_items (Failed (User 7))) ≡ Some (stream (5 ∷ 5 ∷ []) (Failed (User 7))))

-- a lane that has failed can't be chosen again
abbrev pub FailedLaneIsGone : Type 0
FailedLaneIsGone = flat_map_delay twice 2 (Map 1 ∷ []) (0 ∷ 0 ∷ []) (two_items Done) ≡ None

-- a fault of the expansion is the failure of the input at its item: the lanes before it go on, also where it was taken before them
abbrev pub FaultIsHeld : Type 0
FaultIsHeld =
    (flat_map_delay numbers 1 [] [] (stream (2 ∷ 2000 ∷ 3 ∷ []) Done) ≡ Some (stream (1 ∷ 2 ∷ []) (Failed (Function 3))))
    × (flat_map_delay numbers 1 [] (MAIN ∷ 0 ∷ []) (stream (2 ∷ 2000 ∷ 3 ∷ []) Done) ≡ Some (stream (1 ∷ 2 ∷ []) (Failed (Function 3))))
