-- Endings of streams, and lists of signals in which one stands.
use Rattle.std.specs.Prelude.{Bool, true, false, List}
use Rattle.std.specs.List.{list_any}
use Rattle.rsx_types.specs.declared.signal.Ending.{Ending}
use Rattle.rsx_types.specs.declared.signal.Ending.TheVariants.{Open, Done, Failed}
use Rattle.rsx_types.specs.declared.signal.Signal.{Signal}
use Rattle.rsx_types.specs.Stream.{Stream, ended_by}
use Rattle.rsx_sources.specs.Counts.{ends_input}

-- whether an ending is among the signals, in front or behind an item
abbrev pub has_ending : {T : Type 0} → List (Signal T) → Bool
has_ending ss = list_any ends_input ss

-- whether an ending ends the stream
abbrev pub has_ended : Ending → Bool
has_ended Open = false
has_ended Done = true
has_ended (Failed c) = true

-- an ending cuts what follows it; where there is none yet, that comes
abbrev pub ended_or : {T : Type 0} → Ending → Stream T → Stream T
ended_or Open v = v
ended_or Done v = ended_by Done
ended_or (Failed c) v = ended_by (Failed c)
