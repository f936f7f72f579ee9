-- Lanes beside Main: what several streams that were made of one give together.
use Rattle.std.specs.Prelude.{ℕ, List, [], ◌∷◌, ◌++◌, Option, None}
use Rattle.rsx_types.specs.declared.signal.Ending.{Ending}
use Rattle.rsx_types.specs.Stream.{Stream, ended_by, signals}
use Rattle.rsx_values.specs.Pick.{InputLeft, numbered}
use Rattle.rsx_values.specs.Delayed.{merge_delayed_inputs}
use Rattle.rsx_values.specs.Merge.{merge_inputs}
use Rattle.rsx_values.specs.declared.limits.TheConstants.{MAIN}

-- Main has no items, and the ending of the input
abbrev pub main_input : {T : Type 0} → Ending → List (InputLeft T)
main_input e = (MAIN, signals (ended_by e)) ∷ []

-- the lanes, numbered from 0 on, and Main
abbrev pub lanes_and_main : {T : Type 0} → List (Stream T) → Ending → List (InputLeft T)
lanes_and_main vs e = numbered 0 vs ++ main_input e

-- their merge; none where the choices don't fit
abbrev pub merged_lanes : {T : Type 0} → List ℕ → List (Stream T) → Ending → Option (Stream T)
merged_lanes cs vs e = merge_inputs cs (lanes_and_main vs e)

-- their merge where a failure ends its lane alone, and the first one that was taken goes out behind all others
abbrev pub merged_lanes_delay : {T : Type 0} → List ℕ → List (Stream T) → Ending → Option (Stream T)
merged_lanes_delay cs vs e = merge_delayed_inputs None cs (lanes_and_main vs e)
