-- What a queue holds: items, and the ending behind them.
use Rattle.std.specs.Prelude.{ℕ, Bool, true, false, List, [], ◌∷◌, ◌++◌, map, Option, Some, None}
use Rattle.rsx_sources.specs.Prelude.{Done, Failed, Signal, Next, Complete, Error, Stream, ended_by, items_then, Incoming, incoming_of}
use Rattle.rsx_sources.specs.declared.machine.Front.{Front}
use Rattle.rsx_sources.specs.declared.machine.Front.TheVariants.{Item, Completion as CompletionFront, Failure as FailureFront}
use Rattle.rsx_queued.specs.declared.tail.Tail.{Tail}
use Rattle.rsx_queued.specs.declared.tail.Tail.TheVariants.{Open, Completion, Failure, Taken}

-- whether the ending isn't in the queue yet
abbrev pub is_open : Tail → Bool
is_open Open = true
is_open Completion = false
is_open (Failure c) = false
is_open Taken = false

-- the ending that waits
abbrev pub tail_signal : {T : Type 0} → Tail → Option (Signal T)
tail_signal Open = None
tail_signal Completion = Some Complete
tail_signal (Failure c) = Some (Error c)
tail_signal Taken = None

-- which one it is
abbrev pub tail_front : Tail → Option Front
tail_front Open = None
tail_front Completion = Some CompletionFront
tail_front (Failure c) = Some (FailureFront c)
tail_front Taken = None

-- how many endings wait
abbrev pub tail_count : Tail → ℕ
tail_count Open = 0
tail_count Completion = 1
tail_count (Failure c) = 1
tail_count Taken = 0

-- after the ending that waits was taken
abbrev pub tail_taken : Tail → Tail
tail_taken Open = Open
tail_taken Completion = Taken
tail_taken (Failure c) = Taken
tail_taken Taken = Taken

-- an ending cuts what follows it; where none waits, that comes
abbrev pub tail_then : {T : Type 0} → Tail → Stream T → Stream T
tail_then Open v = v
tail_then Completion v = ended_by Done
tail_then (Failure c) v = ended_by (Failed c)
tail_then Taken v = v

-- what is held, and then what comes
abbrev pub held_then : {T : Type 0} → List T → Tail → Stream T → Stream T
held_then xs t v = items_then xs (tail_then t v)

abbrev pub ending_list : {T : Type 0} → Option (Signal T) → List (Signal T)
ending_list None = []
ending_list (Some s) = s ∷ []

-- the signals that are held, the oldest first
abbrev pub held : {T : Type 0} → List T → Tail → List (Signal T)
held xs t = map Next xs ++ ending_list (tail_signal t)

-- the oldest of them
abbrev pub first_held : {T : Type 0} → List T → Tail → Option (Signal T)
first_held [] t = tail_signal t
first_held (x ∷ xs) t = Some (Next x)

-- which one it is
abbrev pub first_shown : {T : Type 0} → List T → Tail → Option Front
first_shown [] t = tail_front t
first_shown (x ∷ xs) t = Some Item

-- once a node's ending is in its queue, nothing comes in at the node any more
abbrev pub comes_in_at : {T : Type 0} → Tail → Incoming T → Incoming T
comes_in_at Open inc = inc
comes_in_at Completion inc = incoming_of [] []
comes_in_at (Failure c) inc = incoming_of [] []
comes_in_at Taken inc = incoming_of [] []
