-- The combineLatest as a node: a queue and the latest item of each input, the out slot, and the choices made.
use Rattle.std.specs.Prelude.{◌≡◌, ℕ, zero, suc, ◌≤◌, ◌^◌, ◌&&◌, ◌||◌, not, Bool, true, false, nat_lt, List, [], ◌∷◌, length, slice_get, slice_set, Option, Some, None, option_map}
use Rattle.rsx_sources.specs.Prelude.{Note, Picks, Signal, Next, Complete, Error, Meaning, Stream, Incoming, front_of}
use Rattle.rsx_sources.specs.declared.machine.Front.{Front}
use Rattle.rsx_sources.specs.declared.machine.Front.TheVariants.{Item}
use Rattle.rsx_sources.specs.declared.machine.Passed.{Passed}
use Rattle.rsx_values.specs.declared.record.Run.{Run}
use Rattle.rsx_values.specs.Prelude.{written, all_latest, is_itemless, combine_until_stop, latest_until_stop, unless_chosen}
use Rattle.rsx_queued.specs.declared.input.QueuedInput.{QueuedInput}
use Rattle.rsx_queued.specs.declared.output.Output.{Output}
use Rattle.rsx_queued.specs.declared.output.Output.TheVariants.{Waiting}
use Rattle.rsx_queued.specs.Prelude.{without, next_signal, next_signal_at, takes_at, credits_at, waiting_at, done_at, are_gone, AreCounted, inputs_left, picked, out_signal, is_empty, has_ending, is_over, output_then, IsOut, first_values}
use Rattle.rsx_combining.specs.Inputs.{with_signal_at, IsQueued}

-- the inputs, the latest item of each, what the node has put out, and the choices made
pub record LatestState (T : Type 0) : Type 0 where
  pub inputs : List (QueuedInput T)
  pub latest : List (Option T)
  pub output : Output T
  pub choices : List Run

-- the out slot, and then the rows of what is still to come of the inputs; behind an ending nothing can be chosen
abbrev pub latest_of : {T : Type 0} → Meaning T → Output T → List (Option T) → List (QueuedInput T) → List (Stream T) → Note → Option (Stream T)
latest_of m out latest qs vs further = picked further (λ cs. output_then out (combine_until_stop m.row_of latest cs (inputs_left 0 qs vs)) (unless_chosen cs))

abbrev pub latest_comes_out : {T : Type 0} → Meaning T → LatestState T → Incoming T → Note → Option (Stream T)
latest_comes_out m n inc further = latest_of m n.output n.latest n.inputs (inc.first ∷ inc.others) further

abbrev pub latest_waiting : {T : Type 0} → Meaning T → LatestState T → Option (Signal T)
latest_waiting m n = out_signal n.output

abbrev pub latest_shown : {T : Type 0} → LatestState T → Option Front
latest_shown n = option_map front_of (out_signal n.output)

-- an item needs room in the input's queue
abbrev pub latest_takes : {T : Type 0} → LatestState T → ℕ → Front → Bool
latest_takes n i f = takes_at (slice_get n.inputs i) f

-- a signal came in at input i: it is in that queue, and nothing else has changed
abbrev pub latest_with_signal : {T : Type 0} → LatestState T → ℕ → Signal T → LatestState T
latest_with_signal n i s = record { inputs = with_signal_at n.inputs i s; latest = n.latest; output = n.output; choices = n.choices }

abbrev pub is_there : {A : Type 0} → Option A → Bool
is_there None = false
is_there (Some x) = true

abbrev pub all_there : {A : Type 0} → List (Option A) → Bool
all_there [] = true
all_there (o ∷ os) = is_there o && all_there os

-- whether an item of input i gives a row: every other input has had one
abbrev pub gives_row : {A : Type 0} → List (Option A) → ℕ → Bool
gives_row [] i = false
gives_row (o ∷ os) zero = all_there os
gives_row (o ∷ os) (suc i) = is_there o && gives_row os i

-- an item that gives a row can be picked only where one more may be sent
abbrev pub may_pick : {T : Type 0} → Option (Signal T) → Bool → ℕ → ℕ → Bool
may_pick None row asked sent = false
may_pick (Some (Next x)) row asked sent = nat_lt sent asked || not row
may_pick (Some Complete) row asked sent = true
may_pick (Some (Error c)) row asked sent = true

abbrev pub latest_picks : {T : Type 0} → LatestState T → ℕ → ℕ → ℕ → Bool
latest_picks n i asked sent = is_empty n.output && may_pick (next_signal_at (slice_get n.inputs i)) (gives_row n.latest i) asked sent

-- the row that this signal of input i gives, if it gives one
abbrev pub row_given : {T : Type 0} → (List T → T) → List (Option T) → ℕ → Option (Signal T) → Option T
row_given row latest i None = None
row_given row latest i (Some (Next x)) = option_map row (all_latest (slice_set latest i (Some x)))
row_given row latest i (Some Complete) = None
row_given row latest i (Some (Error c)) = None

-- whether the next signal of an input is an item, where an item of that input gives a row
abbrev pub row_is_next : {T : Type 0} → Option (Signal T) → Bool → Bool
row_is_next None row = false
row_is_next (Some (Next x)) row = row
row_is_next (Some Complete) row = false
row_is_next (Some (Error c)) row = false

-- the latest items behind this signal of input i
abbrev pub latest_with : {T : Type 0} → List (Option T) → ℕ → Option (Signal T) → List (Option T)
latest_with latest i None = latest
latest_with latest i (Some (Next x)) = slice_set latest i (Some x)
latest_with latest i (Some Complete) = latest
latest_with latest i (Some (Error c)) = latest

abbrev pub latest_recording : {T : Type 0} → LatestState T → ℕ → Note
latest_recording n i = Picks (i ∷ [])

abbrev pub latest_recorded : {T : Type 0} → LatestState T → Note
latest_recorded n = Picks (written n.choices)

abbrev pub latest_ended : {T : Type 0} → LatestState T → Bool
latest_ended n = has_ending n.output

-- an item that is to go through waits at its input, unless that can't take it or the node has ended
abbrev pub IsLatestPassed : {T : Type 0} → LatestState T → ℕ → T → Passed T → LatestState T → Type 0
IsLatestPassed old i x passed new = IsQueued (not (latest_ended old) && latest_takes old i Item) (latest_with_signal old i (Next x)) old x passed new

abbrev pub latest_done : {T : Type 0} → LatestState T → ℕ → Bool
latest_done n i = done_at (slice_get n.inputs i)

-- the inputs without the next signal of input i
abbrev pub taken_at : {T : Type 0} → List (QueuedInput T) → ℕ → List (QueuedInput T)
taken_at [] i = []
taken_at (q ∷ qs) zero = without q (next_signal q) ∷ qs
taken_at (q ∷ qs) (suc i) = q ∷ taken_at qs i

-- a row that was made is put out
abbrev pub made_out : {T : Type 0} → Option T → Output T → Output T
made_out None out = out
made_out (Some y) out = Waiting (Next y)

-- a completion ends the node where the input had no item, or no other input is left
abbrev pub completed : {T : Type 0} → Bool → Output T → Output T
completed true out = Waiting Complete
completed false out = out

-- the node after this signal of input i was taken, where it made this row
abbrev pub after_signal : {T : Type 0} → LatestState T → ℕ → Option T → Option (Signal T) → LatestState T
after_signal n i made None = record { inputs = taken_at n.inputs i; latest = n.latest; output = n.output; choices = n.choices }
after_signal n i made (Some (Next x)) = record { inputs = taken_at n.inputs i; latest = slice_set n.latest i (Some x); output = made_out made n.output; choices = n.choices }
after_signal n i made (Some Complete) =
    record { inputs = taken_at n.inputs i; latest = n.latest; output = completed (is_itemless (slice_get n.latest i) || are_gone (taken_at n.inputs i)) n.output; choices = n.choices }
after_signal n i made (Some (Error c)) = record { inputs = taken_at n.inputs i; latest = n.latest; output = Waiting (Error c); choices = n.choices }

abbrev pub after_pick : {T : Type 0} → LatestState T → ℕ → Option T → LatestState T
after_pick n i made = after_signal n i made (next_signal_at (slice_get n.inputs i))

-- as long as no ending went out, and an input is left
pub record IsLatestCounted {T : Type 0} (n : LatestState T) (taken : List ℕ) (sent : ℕ) : Type 0 where
  pub goes_on : is_over n.output ≡ false
  pub some_left : are_gone n.inputs ≡ false
  pub few : length n.inputs ≤ 2 ^ 64
  pub counts : AreCounted n.inputs taken

abbrev pub latest_wanted : {T : Type 0} → LatestState T → ℕ → ℕ → ℕ → ℕ
latest_wanted n i asked sent = credits_at (slice_get n.inputs i)

-- how many signals of an input wait to be picked
abbrev pub latest_queued : {T : Type 0} → LatestState T → ℕ → Option ℕ
latest_queued n i = waiting_at (slice_get n.inputs i)

abbrev pub latest_popped : {T : Type 0} → LatestState T → Signal T → LatestState T → Type 0
latest_popped old s new = IsOut old.output s new.output × (new.inputs ≡ old.inputs) × (new.latest ≡ old.latest) × (new.choices ≡ old.choices)

-- at a node at which nothing came in: the combineLatest of so many of the values that come in
abbrev pub GivesLatest : {T : Type 0} → LatestState T → ℕ → Type 0
GivesLatest {T} n inputs =
    (m : Meaning T) (inc : Incoming T) (further : Note) →
    latest_comes_out m n inc further ≡ picked further (λ cs. latest_until_stop m.row_of cs (first_values inputs (inc.first ∷ inc.others)))
