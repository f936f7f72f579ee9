-- Where Main is.
use Rattle.std.specs.Prelude.{Bool, true, false, List, []}
use Rattle.rsx_sources.specs.Prelude.{Ending, Done, Failed}
use Rattle.rsx_grouping.specs.declared.main_state.MainState.{MainState}
use Rattle.rsx_grouping.specs.declared.main_state.MainState.TheVariants.{Coming, Completed, Failing, Taken}

-- whether the ending of the input has not come
abbrev pub is_coming : MainState → Bool
is_coming Coming = true
is_coming Completed = false
is_coming (Failing c) = false
is_coming Taken = false

-- whether the completion of the input came
abbrev pub is_done : MainState → Bool
is_done Coming = false
is_done Completed = true
is_done (Failing c) = false
is_done Taken = true

-- whether Main can be picked
abbrev pub is_ready : MainState → Bool
is_ready Coming = false
is_ready Completed = true
is_ready (Failing c) = true
is_ready Taken = false

-- whether the completion was picked
abbrev pub is_taken : MainState → Bool
is_taken Coming = false
is_taken Completed = false
is_taken (Failing c) = false
is_taken Taken = true

-- once the input has ended; a second ending changes nothing
abbrev pub ended_by : MainState → MainState → MainState
ended_by Coming e = e
ended_by Completed e = Completed
ended_by (Failing c) e = Failing c
ended_by Taken e = Taken

-- the items that still come in before it
abbrev pub items_before : {T : Type 0} → MainState → List T → List T
items_before Coming xs = xs
items_before Completed xs = []
items_before (Failing c) xs = []
items_before Taken xs = []

-- how what still comes in ends, where the input ends so unless its ending came
abbrev pub ending_behind : MainState → Ending → Ending
ending_behind Coming e = e
ending_behind Completed e = Done
ending_behind (Failing c) e = Failed c
ending_behind Taken e = Done
