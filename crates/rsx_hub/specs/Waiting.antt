-- Items that wait, and an ending behind them.
use Rattle.std.specs.Prelude.{Bool, true, false, List, [], ◌∷◌, Option, Some, None}
use Rattle.rsx_sources.specs.Prelude.{Ending, Open, Done, Failed, Signal, Next, Complete, Error}
use Rattle.rsx_sources.specs.declared.machine.Front.{Front}
use Rattle.rsx_sources.specs.declared.machine.Front.TheVariants.{Item, Completion, Failure}

-- whether more may come
abbrev pub is_open : Ending → Bool
is_open Open = true
is_open Done = false
is_open (Failed c) = false

-- the signal of an ending
abbrev pub ending_signal : {T : Type 0} → Ending → Option (Signal T)
ending_signal Open = None
ending_signal Done = Some Complete
ending_signal (Failed c) = Some (Error c)

-- which signal that is
abbrev pub ending_front : Ending → Option Front
ending_front Open = None
ending_front Done = Some Completion
ending_front (Failed c) = Some (Failure c)

-- the signal that waits in front: an item, or the ending behind them, unless that is gone
abbrev pub first_waiting : {T : Type 0} → List T → Ending → Bool → Option (Signal T)
first_waiting [] e true = None
first_waiting [] e false = ending_signal e
first_waiting (x ∷ xs) e gone = Some (Next x)

-- which signal that is
abbrev pub first_shown : {T : Type 0} → List T → Ending → Bool → Option Front
first_shown [] e true = None
first_shown [] e false = ending_front e
first_shown (x ∷ xs) e gone = Some Item
