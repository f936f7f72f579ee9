-- The ending among signals that were taken from a link.
use Rattle.std.specs.Prelude.{List, [], ◌∷◌, Option, Some, None}
use Rattle.rsx_sources.specs.Prelude.{Complete, Done, Ending, Error, Failed, Next, Signal}

-- the first ending among these signals
abbrev pub first_ending : {T : Type 0} → List (Signal T) → Option Ending
first_ending [] = None
first_ending (Next x ∷ ss) = first_ending ss
first_ending (Complete ∷ ss) = Some Done
first_ending (Error c ∷ ss) = Some (Failed c)
