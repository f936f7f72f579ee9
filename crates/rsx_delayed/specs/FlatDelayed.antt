-- A signal that is taken of a lane, where failures are delayed.
use Rattle.std.specs.Prelude.{List, [], ◌∷◌, Option}
use Rattle.rsx_types.specs.declared.signal.Cause.{Cause}
use Rattle.rsx_types.specs.declared.signal.Signal.{Signal}
use Rattle.rsx_types.specs.declared.signal.Signal.TheVariants.{Next, Complete, Error}
use Rattle.rsx_values.specs.Delayed.{first_cause}

-- the item that it is, if it is one
abbrev pub item_of : {T : Type 0} → Signal T → List T
item_of (Next x) = x ∷ []
item_of Complete = []
item_of (Error c) = []

-- the failure that was taken first, where it was this one before
abbrev pub kept_after : {T : Type 0} → Signal T → Option Cause → Option Cause
kept_after (Next x) kept = kept
kept_after Complete kept = kept
kept_after (Error c) kept = first_cause kept c
