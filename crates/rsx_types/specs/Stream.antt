-- Stream values, and what is put in front of one. An ending in front cuts what follows it.
use Rattle.std.specs.Prelude.{ℕ, Bool, true, false, List, [], ◌∷◌, ◌++◌, map, Result, Ok, Err}
use Rattle.rsx_types.specs.declared.signal.Cause.TheVariants.{Function}
use Rattle.rsx_types.specs.declared.signal.Ending.{Ending}
use Rattle.rsx_types.specs.declared.signal.Ending.TheVariants.{Open, Done, Failed}
use Rattle.rsx_types.specs.declared.signal.Signal.{Signal}
use Rattle.rsx_types.specs.declared.signal.Signal.TheVariants.{Next, Complete, Error}

-- a list of items with an ending
pub record Stream (T : Type 0) : Type 0 where
  pub items : List T
  pub ending : Ending

-- nothing but an ending
abbrev pub ended_by : {T : Type 0} → Ending → Stream T
ended_by e = record { items = []; ending = e }

-- an item, and then what comes
abbrev pub item_then : {T : Type 0} → T → Stream T → Stream T
item_then x v = record { items = x ∷ v.items; ending = v.ending }

-- items, and then what comes
abbrev pub items_then : {T : Type 0} → List T → Stream T → Stream T
items_then xs v = record { items = xs ++ v.items; ending = v.ending }

-- a signal, and then what comes
abbrev pub signal_then : {T : Type 0} → Signal T → Stream T → Stream T
signal_then (Next x) v = item_then x v
signal_then Complete v = ended_by Done
signal_then (Error c) v = ended_by (Failed c)

-- signals, and then what comes
abbrev pub signals_then : {T : Type 0} → List (Signal T) → Stream T → Stream T
signals_then [] v = v
signals_then (s ∷ ss) v = signal_then s (signals_then ss v)

-- the signal of an ending
abbrev pub ending_signals : {T : Type 0} → Ending → List (Signal T)
ending_signals Open = []
ending_signals Done = Complete ∷ []
ending_signals (Failed c) = Error c ∷ []

-- the signals of a stream value: its items in order, and then its ending
abbrev pub signals : {T : Type 0} → Stream T → List (Signal T)
signals v = map Next v.items ++ ending_signals v.ending

-- the failure by fault c
abbrev pub cut_by : {T : Type 0} → ℕ → Stream T
cut_by c = ended_by (Failed (Function c))

-- an answer of the caller's function, and then what comes; a fault cuts there
abbrev pub answer_then : {T : Type 0} → Result T ℕ → Stream T → Stream T
answer_then (Ok y) v = item_then y v
answer_then (Err c) v = cut_by c

-- an item if its test is true, and then what comes; a fault cuts there
abbrev pub kept_then : {T : Type 0} → T → Result Bool ℕ → Stream T → Stream T
kept_then x (Ok true) v = item_then x v
kept_then x (Ok false) v = v
kept_then x (Err c) v = cut_by c
