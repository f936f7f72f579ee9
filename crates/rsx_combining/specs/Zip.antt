-- The zip as a node: a queue for each input, the out slot, and the input whose ending was taken.
use Rattle.std.specs.Prelude.{◌≡◌, ℕ, ◌≤◌, ◌^◌, ◌&&◌, not, Bool, true, false, if◌then◌else◌, nat_eq, nat_lt, List, ◌∷◌, length, slice_get, Option, Some, None, option_map}
use Rattle.std.specs.Option.{is_some}
use Rattle.rsx_sources.specs.Prelude.{Note, Nothing, Picks, Ended, Done, Signal, Next, Meaning, Allocates, Stream, ended_by, Incoming, front_of}
use Rattle.rsx_sources.specs.declared.machine.Front.{Front}
use Rattle.rsx_sources.specs.declared.machine.Front.TheVariants.{Item}
use Rattle.rsx_sources.specs.declared.machine.Passed.{Passed}
use Rattle.rsx_queued.specs.declared.input.QueuedInput.{QueuedInput}
use Rattle.rsx_queued.specs.declared.output.Output.{Output}
use Rattle.rsx_queued.specs.declared.output.Output.TheVariants.{Waiting}
use Rattle.rsx_queued.specs.Prelude.{out_signal, is_empty, has_ending, is_over, output_then, IsOut, takes_at, credits_at, waiting_at, done_at, first_values}
use Rattle.rsx_values.specs.Zip.{zip}
use Rattle.rsx_combining.specs.Inputs.{lefts, ending_at, is_some_input, all_have_items, all_shortened, with_signal_at, IsQueued, AllCounted}

-- the inputs, what the node has put out, and the number of the input whose ending it took
pub record ZipState (T : Type 0) : Type 0 where
  pub inputs : List (QueuedInput T)
  pub output : Output T
  pub chosen : Option ℕ

-- a node that records an ending has a value only where an ending is recorded, or none
abbrev pub recorded_ending : {A : Type 0} → Note → (Option ℕ → Option A) → Option A
recorded_ending Nothing f = None
recorded_ending (Picks cs) f = None
recorded_ending (Ended o) f = f o

-- what stands behind the ending is cut, and no further input is recorded
abbrev pub behind_ending : {T : Type 0} → Option ℕ → Option (Stream T)
behind_ending None = Some (ended_by Done)
behind_ending (Some i) = None

-- the out slot, and then the zip of what is still to come of the inputs
abbrev pub zip_of : {T : Type 0} → Meaning T → Output T → List (QueuedInput T) → List (Stream T) → Note → Option (Stream T)
zip_of m out qs vs further = recorded_ending further (λ o. output_then out (zip m.row_of o (lefts qs vs)) (behind_ending o))

abbrev pub zip_comes_out : {T : Type 0} → Meaning T → ZipState T → Incoming T → Note → Option (Stream T)
zip_comes_out m n inc further = zip_of m n.output n.inputs (inc.first ∷ inc.others) further

abbrev pub zip_waiting : {T : Type 0} → Meaning T → ZipState T → Option (Signal T)
zip_waiting m n = out_signal n.output

abbrev pub zip_shown : {T : Type 0} → ZipState T → Option Front
zip_shown n = option_map front_of (out_signal n.output)

-- an item needs room in the input's queue
abbrev pub zip_takes : {T : Type 0} → ZipState T → ℕ → Front → Bool
zip_takes n i f = takes_at (slice_get n.inputs i) f

-- a signal came in at input i: it is in that queue, and nothing else has changed
abbrev pub zip_with_signal : {T : Type 0} → ZipState T → ℕ → Signal T → ZipState T
zip_with_signal n i s = record { inputs = with_signal_at n.inputs i s; output = n.output; chosen = n.chosen }

abbrev pub is_unchosen : Option ℕ → Bool
is_unchosen None = true
is_unchosen (Some i) = false

-- nothing waits, and no ending was taken
abbrev pub may_end : {T : Type 0} → ZipState T → Bool
may_end n = is_empty n.output && is_unchosen n.chosen

-- an input can be picked where its ending is next
abbrev pub zip_picks : {T : Type 0} → ZipState T → ℕ → ℕ → ℕ → Bool
zip_picks n i asked sent = may_end n && is_some (ending_at n.inputs i)

-- a row can be made where an item is next at each input, one more may be sent, and nothing waits
abbrev pub zip_rows : {T : Type 0} → ZipState T → ℕ → ℕ → Bool
zip_rows n asked sent = (is_empty n.output && nat_lt sent asked) && (is_some_input n.inputs && all_have_items n.inputs)

-- a row: the first item of each input is gone, and one item waits
pub record IsZipRow {T : Type 0} (old : ZipState T) (asked sent : ℕ) (new : ZipState T) : Type 0 where
  pub row : T
  pub inputs : new.inputs ≡ all_shortened old.inputs
  pub output : new.output ≡ Waiting (Next row)
  pub chosen : new.chosen ≡ old.chosen

-- a pick: the ending that is next at input i waits, the input is recorded, and the queues are as they were
pub record IsZipPick {T : Type 0} (old : ZipState T) (i : ℕ) (new : ZipState T) : Type 0 where
  pub ending : Signal T
  pub next : ending_at old.inputs i ≡ Some ending
  pub inputs : new.inputs ≡ old.inputs
  pub output : new.output ≡ Waiting ending
  pub chosen : new.chosen ≡ Some i

abbrev pub zip_recording : {T : Type 0} → ZipState T → ℕ → Note
zip_recording n i = Ended (Some i)

abbrev pub zip_recorded : {T : Type 0} → ZipState T → Note
zip_recorded n = Ended n.chosen

abbrev pub zip_ended : {T : Type 0} → ZipState T → Bool
zip_ended n = has_ending n.output

abbrev pub zip_done : {T : Type 0} → ZipState T → ℕ → Bool
zip_done n i = done_at (slice_get n.inputs i)

-- an item that is to go through waits at its input, unless that can't take it or the node has ended
abbrev pub IsZipPassed : {T : Type 0} → ZipState T → ℕ → T → Passed T → ZipState T → Type 0
IsZipPassed old i x passed new = IsQueued (not (zip_ended old) && zip_takes old i Item) (zip_with_signal old i (Next x)) old x passed new

-- as long as no ending was taken, and there are inputs
pub record IsZipCounted {T : Type 0} (n : ZipState T) (taken : List ℕ) (sent : ℕ) : Type 0 where
  pub unchosen : n.chosen ≡ None
  pub goes_on : is_over n.output ≡ false
  pub some_input : is_some_input n.inputs ≡ true
  pub few : length n.inputs ≤ 2 ^ 32
  pub counts : AllCounted n.inputs taken

abbrev pub zip_wanted : {T : Type 0} → ZipState T → ℕ → ℕ → ℕ → ℕ
zip_wanted n i asked sent = credits_at (slice_get n.inputs i)

-- whether the ending of this input was taken
abbrev pub is_chosen : Option ℕ → ℕ → Bool
is_chosen None i = false
is_chosen (Some c) i = nat_eq c i

-- how many signals of an input wait: nothing where its ending was taken, since all before that was
abbrev pub zip_queued : {T : Type 0} → ZipState T → ℕ → Option ℕ
zip_queued n i = if is_chosen n.chosen i then option_map (λ k. 0) (waiting_at (slice_get n.inputs i)) else waiting_at (slice_get n.inputs i)

abbrev pub zip_popped : {T : Type 0} → ZipState T → Signal T → ZipState T → Type 0
zip_popped old s new = IsOut old.output s new.output × (new.inputs ≡ old.inputs) × (new.chosen ≡ old.chosen)

-- a row is made by the caller's function, and nothing else takes memory
abbrev pub zip_step_allocates : {T : Type 0} → Allocates → ZipState T → Bool
zip_step_allocates a n = a.row_of

-- at a node at which nothing came in: the zip of so many of the values that come in
abbrev pub GivesZip : {T : Type 0} → ZipState T → ℕ → Type 0
GivesZip {T} n inputs =
    (m : Meaning T) (inc : Incoming T) (further : Note) →
    zip_comes_out m n inc further ≡ recorded_ending further (λ o. zip m.row_of o (first_values inputs (inc.first ∷ inc.others)))
