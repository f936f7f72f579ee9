-- Emissions as signals, and stream values behind one another.
use Rattle.std.specs.Prelude.{List, [], ◌∷◌, ◌++◌, Option, Some, None}
use Rattle.rsx_sources.specs.Prelude.{Open, Done, Failed, Signal, Next, Complete, Error, Stream, items_then, ending_signals}
use Rattle.rsx_plain.specs.Moves.{ended_or}
use Rattle.rsx_plain.specs.declared.prepared.Emission.{Emission}

-- a stream value, and then what comes, unless the value ended
abbrev pub followed_by : {T : Type 0} → Stream T → Stream T → Stream T
followed_by v w = items_then v.items (ended_or v.ending w)

-- one signal as an emission
abbrev pub emission_of : {T : Type 0} → Signal T → Emission T
emission_of (Next x) = record { item = Some x; ending = Open }
emission_of Complete = record { item = None; ending = Done }
emission_of (Error c) = record { item = None; ending = Failed c }

-- the signal of an item, if there is one
abbrev pub item_signals : {T : Type 0} → Option T → List (Signal T)
item_signals None = []
item_signals (Some x) = Next x ∷ []

-- the signals of an emission
abbrev pub emission_signals : {T : Type 0} → Emission T → List (Signal T)
emission_signals p = item_signals p.item ++ ending_signals p.ending
