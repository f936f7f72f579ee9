-- The merge that delays failures as a node: the queues of its inputs, what it has put out, the choices made, and the first failure
-- that was picked.
use Rattle.std.specs.Prelude.{◌≡◌, ℕ, Bool, true, false, ◌&&◌, List, [], ◌∷◌, slice_get, Option, Some, None, option_map}
use Rattle.rsx_sources.specs.Prelude.{Note, Picks, Cause, Signal, Complete, Error, Meaning, Stream, Incoming, front_of}
use Rattle.rsx_sources.specs.declared.machine.Front.{Front}
use Rattle.rsx_queued.specs.Prelude.{may_go, takes_at, next_signal_at, credits_at, waiting_at, done_at, inputs_left, picked, out_signal, is_empty, has_ending, output_then, IsOut}
use Rattle.rsx_queued.specs.declared.input.QueuedInput.{QueuedInput}
use Rattle.rsx_queued.specs.declared.output.Output.{Output}
use Rattle.rsx_queued.specs.declared.output.Output.TheVariants.{Empty, Waiting}
use Rattle.rsx_values.specs.Pick.{InputLeft}
use Rattle.rsx_values.specs.Record.{written}
use Rattle.rsx_merging.specs.Merge.{IsGoing}
use Rattle.rsx_values.specs.Delayed.{merge_delayed_inputs}
use Rattle.rsx_delayed.specs.declared.merge_delay_node.MergeDelayNode.{MergeDelayNode}

-- what was put out, and then the merge of these inputs under the further choices; behind an ending nothing can be chosen
abbrev pub delayed_behind : {T : Type 0} → Output T → Option Cause → List (InputLeft T) → Note → Option (Stream T)
delayed_behind out kept is further = picked further (λ cs. output_then out (merge_delayed_inputs kept cs is) (merge_delayed_inputs None cs []))

abbrev pub delayed_of : {T : Type 0} → Output T → Option Cause → List (QueuedInput T) → Incoming T → Note → Option (Stream T)
delayed_of out kept qs inc further = delayed_behind out kept (inputs_left 0 qs (inc.first ∷ inc.others)) further

abbrev pub delayed_comes_out : {T : Type 0} → Meaning T → MergeDelayNode T → Incoming T → Note → Option (Stream T)
delayed_comes_out m n inc further = delayed_of n.output n.kept n.inputs.items inc further

abbrev pub delayed_waiting : {T : Type 0} → Meaning T → MergeDelayNode T → Option (Signal T)
delayed_waiting m n = out_signal n.output

abbrev pub delayed_shown : {T : Type 0} → MergeDelayNode T → Option Front
delayed_shown n = option_map front_of (out_signal n.output)

abbrev pub delayed_takes : {T : Type 0} → MergeDelayNode T → ℕ → Front → Bool
delayed_takes n i f = takes_at (slice_get n.inputs.items i) f

abbrev pub delayed_picks : {T : Type 0} → MergeDelayNode T → ℕ → ℕ → ℕ → Bool
delayed_picks n i asked sent = is_empty n.output && may_go (option_map front_of (next_signal_at (slice_get n.inputs.items i))) asked sent

abbrev pub delayed_recording : {T : Type 0} → MergeDelayNode T → ℕ → Note
delayed_recording n i = Picks (i ∷ [])

abbrev pub delayed_recorded : {T : Type 0} → MergeDelayNode T → Note
delayed_recorded n = Picks (written n.choices)

-- the ending waits
abbrev pub delayed_ended : {T : Type 0} → MergeDelayNode T → Bool
delayed_ended n = has_ending n.output

abbrev pub delayed_done : {T : Type 0} → MergeDelayNode T → ℕ → Bool
delayed_done n i = done_at (slice_get n.inputs.items i)

abbrev pub delayed_counted : {T : Type 0} → MergeDelayNode T → List ℕ → ℕ → Type 0
delayed_counted n taken sent = IsGoing n.output n.inputs.items taken

abbrev pub delayed_wanted : {T : Type 0} → MergeDelayNode T → ℕ → ℕ → ℕ → ℕ
delayed_wanted n i asked sent = credits_at (slice_get n.inputs.items i)

-- how many signals of an input wait to be picked
abbrev pub delayed_queued : {T : Type 0} → MergeDelayNode T → ℕ → Option ℕ
delayed_queued n i = waiting_at (slice_get n.inputs.items i)

abbrev pub delayed_popped : {T : Type 0} → MergeDelayNode T → Signal T → MergeDelayNode T → Type 0
delayed_popped old s new = IsOut old.output s new.output × (old.inputs ≡ new.inputs) × (old.choices ≡ new.choices) × (old.kept ≡ new.kept)

-- the signal of the ending once all inputs have ended, where this is the first failure
abbrev pub last_signal : {T : Type 0} → Option Cause → Signal T
last_signal None = Complete
last_signal (Some c) = Error c

-- what the ending of an input puts out: nothing while others are open, and the ending where it was the last
abbrev pub ending_out : {T : Type 0} → Bool → Option Cause → Output T
ending_out false kept = Empty
ending_out true kept = Waiting (last_signal kept)
