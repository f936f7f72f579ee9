-- The merge as a node: the queues of its inputs, what it has put out, and the choices made.
use Rattle.std.specs.Prelude.{◌≡◌, ℕ, zero, suc, ◌≤◌, ◌^◌, nat_le, Bool, false, ◌&&◌, List, [], ◌∷◌, length, slice_get, Option, Some, None, option_map, is_none}
use Rattle.std.specs.Global.{Vec}
use Rattle.std.specs.Vec.{with_item}
use Rattle.rsx_sources.specs.Prelude.{Note, Picks, Signal, Meaning, Stream, Incoming, front_of}
use Rattle.rsx_sources.specs.declared.machine.Front.{Front}
use Rattle.rsx_sources.specs.declared.machine.Front.TheVariants.{Item}
use Rattle.rsx_queued.specs.Prelude.{may_go, takes_at, next_signal_at, credits_at, waiting_at, done_at, are_gone, AreCounted, inputs_left, merge_behind, out_signal, is_empty, is_over, has_ending, IsOut}
use Rattle.rsx_queued.specs.declared.input.QueuedInput.{QueuedInput}
use Rattle.rsx_queued.specs.Input.{input_passed}
use Rattle.rsx_queued.specs.declared.output.Output.{Output}
use Rattle.rsx_values.specs.Record.{written, room_of_last, added_to_last}
use Rattle.rsx_merging.specs.declared.merge_node.MergeNode.{MergeNode}

-- what was put out, and then the merge of the inputs under the further choices; behind an ending nothing can be chosen
abbrev pub merge_of : {T : Type 0} → Output T → List (QueuedInput T) → Incoming T → Note → Option (Stream T)
merge_of out qs inc further = merge_behind out (inputs_left 0 qs (inc.first ∷ inc.others)) further

abbrev pub merge_comes_out : {T : Type 0} → Meaning T → MergeNode T → Incoming T → Note → Option (Stream T)
merge_comes_out m n inc further = merge_of n.output n.inputs.items inc further

abbrev pub merge_waiting : {T : Type 0} → Meaning T → MergeNode T → Option (Signal T)
merge_waiting m n = out_signal n.output

abbrev pub merge_shown : {T : Type 0} → MergeNode T → Option Front
merge_shown n = option_map front_of (out_signal n.output)

abbrev pub merge_takes : {T : Type 0} → MergeNode T → ℕ → Front → Bool
merge_takes n i f = takes_at (slice_get n.inputs.items i) f

abbrev pub merge_picks : {T : Type 0} → MergeNode T → ℕ → ℕ → ℕ → Bool
merge_picks n i asked sent = is_empty n.output && may_go (option_map front_of (next_signal_at (slice_get n.inputs.items i))) asked sent

abbrev pub merge_recording : {T : Type 0} → MergeNode T → ℕ → Note
merge_recording n i = Picks (i ∷ [])

abbrev pub merge_recorded : {T : Type 0} → MergeNode T → Note
merge_recorded n = Picks (written n.choices)

-- the ending waits
abbrev pub merge_ended : {T : Type 0} → MergeNode T → Bool
merge_ended n = has_ending n.output

abbrev pub merge_done : {T : Type 0} → MergeNode T → ℕ → Bool
merge_done n i = done_at (slice_get n.inputs.items i)

-- the node goes on, and its inputs took in so many items each
pub record IsGoing {T : Type 0} (out : Output T) (qs : List (QueuedInput T)) (taken : List ℕ) : Type 0 where
  pub not_over : is_over out ≡ false
  pub some_left : are_gone qs ≡ false
  pub few : length qs ≤ 2 ^ 64
  pub counts : AreCounted qs taken

abbrev pub merge_counted : {T : Type 0} → MergeNode T → List ℕ → ℕ → Type 0
merge_counted n taken sent = IsGoing n.output n.inputs.items taken

abbrev pub merge_wanted : {T : Type 0} → MergeNode T → ℕ → ℕ → ℕ → ℕ
merge_wanted n i asked sent = credits_at (slice_get n.inputs.items i)

-- how many signals of an input wait to be picked
abbrev pub merge_queued : {T : Type 0} → MergeNode T → ℕ → Option ℕ
merge_queued n i = waiting_at (slice_get n.inputs.items i)

abbrev pub merge_popped : {T : Type 0} → MergeNode T → Signal T → MergeNode T → Type 0
merge_popped old s new = IsOut old.output s new.output × (old.inputs ≡ new.inputs) × (old.choices ≡ new.choices)

-- ---- items that go through it in one go

-- whether so many items of input i can go through it, one after the other: nothing waits to go out, the input takes an item and has
-- none yet, and the choices of it are all more of the last run
abbrev pub merges_through : {T : Type 0} → MergeNode T → ℕ → ℕ → Bool
merges_through n i items =
    is_empty n.output && (merge_takes n i Item && (is_none (next_signal_at (slice_get n.inputs.items i)) && nat_le items (room_of_last n.choices i)))

-- the inputs after so many items more went through input i, if it is there
abbrev pub inputs_passed : {T : Type 0} → Vec (QueuedInput T) → ℕ → Option (QueuedInput T) → ℕ → Vec (QueuedInput T)
inputs_passed v i None k = v
inputs_passed v i (Some q) k = with_item v i (input_passed q k)

-- the node with so many items more counted of input i, and as many choices of the last run
abbrev pub merged_more : {T : Type 0} → MergeNode T → ℕ → ℕ → MergeNode T
merged_more n i k = record { inputs = inputs_passed n.inputs i (slice_get n.inputs.items i) k; output = n.output; choices = added_to_last n.choices k }

-- the node after an item of input i was taken in and picked, and went out
abbrev pub after_merged : {T : Type 0} → MergeNode T → ℕ → MergeNode T
after_merged n i = merged_more n i 1

-- the node after so many were, one after the other
abbrev pub after_all_merged : {T : Type 0} → MergeNode T → ℕ → ℕ → MergeNode T
after_all_merged n i zero = n
after_all_merged n i (suc k) = after_all_merged (after_merged n i) i k
