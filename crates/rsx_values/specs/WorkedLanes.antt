-- Worked cases, in which an item is a list of numbers.
use Rattle.std.specs.Prelude.{◌≡◌, ℕ, zero, suc, ◌+◌, ◌%◌, nat_eq, nat_lt, if◌then◌else◌, true, List, [], ◌∷◌, ◌++◌, map, Ok, Err, Some, None}
use Rattle.rsx_types.specs.declared.signal.Cause.TheVariants.{User, Function}
use Rattle.rsx_types.specs.declared.signal.Ending.{Ending}
use Rattle.rsx_types.specs.declared.signal.Ending.TheVariants.{Open, Done, Failed}
use Rattle.rsx_types.specs.declared.stage.Stage.TheVariants.{Map, Take, Scan, Buffer}
use Rattle.rsx_types.specs.Meaning.{Meaning}
use Rattle.rsx_types.specs.Stream.{Stream}
use Rattle.rsx_values.specs.Flat.{flat_map}
use Rattle.rsx_values.specs.Group.{group_by}
use Rattle.rsx_values.specs.Window.{window}
use Rattle.rsx_values.specs.declared.limits.TheConstants.{MAIN, TOO_MANY_KEYS}

-- an item that is one number
abbrev pub one : ℕ → List ℕ
one x = x ∷ []

-- the number of such an item
abbrev pub number_of : List ℕ → ℕ
number_of [] = 0
number_of (x ∷ xs) = x

abbrev pub joined : List (List ℕ) → List ℕ
joined [] = []
joined (xs ∷ ls) = xs ++ joined ls

-- 1 up to n, in front of these
abbrev pub up_to : ℕ → List (List ℕ) → List (List ℕ)
up_to zero more = more
up_to (suc n) more = up_to n (one (n + 1) ∷ more)

-- an item is expanded to the numbers up to it, and above 1,024 that is a fault; a map has a fault from 3 on, and an accumulation is
-- a sum; function 3 has the key modulo 3, the others the number itself, and above 5,000 there is a fault
abbrev pub numbers : Meaning (List ℕ)
numbers = record {
  mapped = λ f x. if nat_lt (number_of x) 3 then Ok x else Err 1;
  tested = λ f x. Ok true;
  folded = λ f a x. Ok (one (number_of a + number_of x));
  keyed = λ f x. if nat_lt 5000 (number_of x) then Err 4 else Ok (if nat_eq f 3 then number_of x % 3 else number_of x);
  expanded = λ f x. if nat_lt 1024 (number_of x) then Err 3 else Ok (up_to (number_of x) []);
  row_of = joined;
  list_of = joined;
  tagged = λ k x. k ∷ x;
  number = λ z. [];
}

abbrev pub stream : List ℕ → Ending → Stream (List ℕ)
stream xs e = record { items = map one xs; ending = e }

abbrev pub lists : List (List ℕ) → Ending → Stream (List ℕ)
lists xs e = record { items = xs; ending = e }

-- ---- window

-- the sums of each window of two, which begins with 0
abbrev pub WindowSums : Type 0
WindowSums = window numbers 2 (Scan 1 (one 0) ∷ []) (stream (1 ∷ 2 ∷ 3 ∷ []) Done) ≡ stream (0 ∷ 1 ∷ 3 ∷ 0 ∷ 3 ∷ []) Done

-- a shorter last window is done where the input is; where the input fails it fails, and a list that was started is dropped
abbrev pub WindowEnds : Type 0
WindowEnds =
    (window numbers 2 (Buffer 5 ∷ []) (stream (1 ∷ 2 ∷ 3 ∷ []) Done) ≡ lists ((1 ∷ 2 ∷ []) ∷ one 3 ∷ []) Done)
    × (window numbers 2 (Buffer 5 ∷ []) (stream (1 ∷ 2 ∷ 3 ∷ []) (Failed (Function 1))) ≡ lists ((1 ∷ 2 ∷ []) ∷ []) (Failed (Function 1)))
    × (window numbers 2 (Buffer 5 ∷ []) (stream (1 ∷ 2 ∷ 3 ∷ []) Open) ≡ lists ((1 ∷ 2 ∷ []) ∷ []) Open)

-- no window is empty, at the end neither; a failure of the chain is the last that comes; a window that is done early lets
-- the others come
abbrev pub WindowCuts : Type 0
WindowCuts =
    (window numbers 2 (Scan 1 (one 0) ∷ []) (stream (1 ∷ 2 ∷ []) Done) ≡ stream (0 ∷ 1 ∷ 3 ∷ []) Done)
    × (window numbers 2 (Scan 1 (one 0) ∷ []) (stream [] (Failed (User 7))) ≡ stream [] (Failed (User 7)))
    × (window numbers 2 (Map 1 ∷ []) (stream (1 ∷ 3 ∷ 1 ∷ []) Done) ≡ stream (1 ∷ []) (Failed (Function 1)))
    × (window numbers 2 (Take 1 ∷ []) (stream (1 ∷ 2 ∷ 3 ∷ []) Open) ≡ stream (1 ∷ 3 ∷ []) Open)

-- ---- flatMap

-- lane by lane where nothing is chosen; the second item has an empty lane
abbrev pub FlatLanes : Type 0
FlatLanes = flat_map numbers 1 [] [] (stream (3 ∷ 0 ∷ 2 ∷ []) Done) ≡ Some (stream (1 ∷ 2 ∷ 3 ∷ 1 ∷ 2 ∷ []) Done)

-- a fault is the input's failure at its item, and the items before it come, unless Main is picked before
abbrev pub FlatFault : Type 0
FlatFault =
    (flat_map numbers 1 [] [] (stream (2 ∷ 2000 ∷ 3 ∷ []) Done) ≡ Some (stream (1 ∷ 2 ∷ []) (Failed (Function 3))))
    × (flat_map numbers 1 [] (0 ∷ MAIN ∷ []) (stream (2 ∷ 2000 ∷ 3 ∷ []) Done) ≡ Some (stream (1 ∷ []) (Failed (Function 3))))
    × (flat_map numbers 1 [] (MAIN ∷ 0 ∷ []) (stream (2 ∷ 2000 ∷ 3 ∷ []) Done) ≡ None)

-- the choices say which lane comes next; a lane that completed can't be picked again, nor one that isn't there, nor Main
-- while the input is open
abbrev pub FlatChosen : Type 0
FlatChosen =
    (flat_map numbers 1 [] (1 ∷ 0 ∷ 1 ∷ 1 ∷ []) (stream (2 ∷ 2 ∷ []) Open) ≡ Some (stream (1 ∷ 1 ∷ 2 ∷ 2 ∷ []) Open))
    × (flat_map numbers 1 [] (1 ∷ 1 ∷ 1 ∷ 1 ∷ []) (stream (2 ∷ 2 ∷ []) Open) ≡ None)
    × (flat_map numbers 1 [] (2 ∷ []) (stream (2 ∷ 2 ∷ []) Open) ≡ None)
    × (flat_map numbers 1 [] (MAIN ∷ []) (stream (2 ∷ 2 ∷ []) Open) ≡ None)
    × (flat_map numbers 1 [] (MAIN ∷ 0 ∷ []) (stream (2 ∷ 2 ∷ []) Done) ≡ Some (stream (1 ∷ 2 ∷ 1 ∷ 2 ∷ []) Done))

-- ---- groupBy

-- a lane for each key, in the order in which the keys come first; each item has its key's tag, also where it is a list
abbrev pub GroupLanes : Type 0
GroupLanes =
    (group_by numbers 3 (Take 1 ∷ []) [] (stream (1 ∷ 4 ∷ 2 ∷ 5 ∷ 3 ∷ []) Done) ≡ Some (lists ((1 ∷ 1 ∷ []) ∷ (2 ∷ 2 ∷ []) ∷ (0 ∷ 3 ∷ []) ∷ []) Done))
    × (group_by numbers 1 (Buffer 2 ∷ []) [] (stream (1 ∷ 1 ∷ 2 ∷ []) Done) ≡ Some (lists ((1 ∷ 1 ∷ 1 ∷ []) ∷ (2 ∷ 2 ∷ []) ∷ []) Done))
    × (group_by numbers 3 [] [] (stream (1 ∷ 2 ∷ 4 ∷ []) Open) ≡ Some (lists ((1 ∷ 1 ∷ []) ∷ (1 ∷ 4 ∷ []) ∷ (2 ∷ 2 ∷ []) ∷ []) Open))

-- a fault of the key is the input's failure at its item: the items before it come, and a list that was started is dropped; a
-- fault of the chain is the last that comes
abbrev pub GroupFault : Type 0
GroupFault =
    (group_by numbers 1 [] [] (stream (2 ∷ 1 ∷ 9000 ∷ 3 ∷ []) Done) ≡ Some (lists ((2 ∷ 2 ∷ []) ∷ (1 ∷ 1 ∷ []) ∷ []) (Failed (Function 4))))
    × (group_by numbers 1 (Buffer 2 ∷ []) [] (stream (1 ∷ 1 ∷ 1 ∷ []) (Failed (User 7))) ≡ Some (lists ((1 ∷ 1 ∷ 1 ∷ []) ∷ []) (Failed (User 7))))
    × (group_by numbers 3 (Map 1 ∷ []) [] (stream (1 ∷ 4 ∷ 2 ∷ []) Done) ≡ Some (lists ((1 ∷ 1 ∷ []) ∷ []) (Failed (Function 1))))

-- the choices say which lane comes next; a lane that completed can't be picked again, nor one that isn't there, nor Main while the
-- input is open, nor a lane behind Main's failure
abbrev pub GroupChosen : Type 0
GroupChosen =
    (group_by numbers 1 [] (1 ∷ 0 ∷ []) (stream (1 ∷ 2 ∷ []) Done) ≡ Some (lists ((2 ∷ 2 ∷ []) ∷ (1 ∷ 1 ∷ []) ∷ []) Done))
    × (group_by numbers 1 [] (1 ∷ 1 ∷ 0 ∷ []) (stream (1 ∷ 2 ∷ []) Done) ≡ Some (lists ((2 ∷ 2 ∷ []) ∷ (1 ∷ 1 ∷ []) ∷ []) Done))
    × (group_by numbers 1 [] (1 ∷ 1 ∷ 1 ∷ []) (stream (1 ∷ 2 ∷ []) Done) ≡ None)
    × (group_by numbers 1 [] (2 ∷ []) (stream (1 ∷ 2 ∷ []) Done) ≡ None)
    × (group_by numbers 1 [] (MAIN ∷ []) (stream (1 ∷ 2 ∷ []) Open) ≡ None)
    × (group_by numbers 1 [] (0 ∷ MAIN ∷ []) (stream (1 ∷ 2 ∷ []) (Failed (User 7))) ≡ Some (lists ((1 ∷ 1 ∷ []) ∷ []) (Failed (User 7))))
    × (group_by numbers 1 [] (MAIN ∷ 0 ∷ []) (stream (1 ∷ 2 ∷ []) (Failed (User 7))) ≡ None)

-- 1,025 different keys are one too many; a further item of a key that is there is none
abbrev pub GroupLimit : Type 0
GroupLimit =
    (group_by numbers 1 (Take 0 ∷ []) [] (lists (up_to 1025 []) Done) ≡ Some (stream [] (Failed (Function TOO_MANY_KEYS))))
    × (group_by numbers 1 (Take 0 ∷ []) [] (lists (up_to 1024 (one 7 ∷ [])) Done) ≡ Some (stream [] Done))
