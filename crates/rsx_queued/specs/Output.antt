-- What a node with several inputs has put out: one signal at a time, and nothing behind an ending.
use Rattle.std.specs.Prelude.{◌≡◌, ℕ, zero, suc, Bool, true, false, Option, Some, None, option_map}
use Rattle.rsx_sources.specs.Prelude.{Signal, Next, Complete, Error, Stream, signal_then}
use Rattle.rsx_queued.specs.declared.output.Output.{Output}
use Rattle.rsx_queued.specs.declared.output.Output.TheVariants.{Empty, Waiting, Over}

-- the signal that waits
abbrev pub out_signal : {T : Type 0} → Output T → Option (Signal T)
out_signal Empty = None
out_signal (Waiting s) = Some s
out_signal Over = None

-- whether the node may put out a signal
abbrev pub is_empty : {T : Type 0} → Output T → Bool
is_empty Empty = true
is_empty (Waiting s) = false
is_empty Over = false

-- whether the ending waits
abbrev pub has_ending : {T : Type 0} → Output T → Bool
has_ending Empty = false
has_ending (Waiting (Next x)) = false
has_ending (Waiting Complete) = true
has_ending (Waiting (Error c)) = true
has_ending Over = false

-- whether the ending went out
abbrev pub is_over : {T : Type 0} → Output T → Bool
is_over Empty = false
is_over (Waiting s) = false
is_over Over = true

-- after this signal went out
abbrev pub after : {T : Type 0} → Signal T → Output T
after (Next x) = Empty
after Complete = Over
after (Error c) = Over

-- this signal waited and went out
abbrev pub IsOut : {T : Type 0} → Output T → Signal T → Output T → Type 0
IsOut old s new = (old ≡ Waiting s) × (new ≡ after s)

-- what waits, and then what comes; `over` is what comes behind an ending
abbrev pub output_then : {T : Type 0} → Output T → Option (Stream T) → Option (Stream T) → Option (Stream T)
output_then Empty o over = o
output_then (Waiting (Next x)) o over = option_map (signal_then (Next x)) o
output_then (Waiting Complete) o over = option_map (signal_then Complete) over
output_then (Waiting (Error c)) o over = option_map (signal_then (Error c)) over
output_then Over o over = over

-- after a call that takes out what waits
abbrev pub popped : {T : Type 0} → Output T → Output T
popped Empty = Empty
popped (Waiting s) = after s
popped Over = Over

-- the item that waits
abbrev pub out_item : {T : Type 0} → Output T → Option T
out_item Empty = None
out_item (Waiting (Next x)) = Some x
out_item (Waiting Complete) = None
out_item (Waiting (Error c)) = None
out_item Over = None

-- after a call that takes out an item that waits
abbrev pub item_popped : {T : Type 0} → Output T → Output T
item_popped Empty = Empty
item_popped (Waiting (Next x)) = Empty
item_popped (Waiting Complete) = Waiting Complete
item_popped (Waiting (Error c)) = Waiting (Error c)
item_popped Over = Over

-- what a node of so many inputs puts out at first: one without inputs completes at once
abbrev pub first_output : {T : Type 0} → ℕ → Output T
first_output zero = Waiting Complete
first_output (suc n) = Empty
