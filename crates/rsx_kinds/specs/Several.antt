-- A node of several inputs of any kind: its meaning is that of its kind.
use Rattle.std.specs.Prelude.{◌≡◌, ⊤, ℕ, Bool, true, false, List, Option}
use Rattle.rsx_sources.specs.Prelude.{Note, Nothing, Signal, Meaning, Allocates, Stream, Incoming}
use Rattle.rsx_sources.specs.declared.machine.Front.{Front}
use Rattle.rsx_merging.specs.Concat.{concat_comes_out, concat_waiting, concat_shown, concat_takes, concat_ended, concat_done, concat_wanted, concat_popped, IsInTurn}
use Rattle.rsx_merging.specs.Merge.{merge_comes_out, merge_waiting, merge_shown, merge_takes, merge_picks, merge_recording, merge_recorded, merge_ended, merge_done, merge_counted, merge_wanted, merge_popped}
use Rattle.rsx_delayed.specs.MergeDelay.{delayed_comes_out, delayed_waiting, delayed_shown, delayed_takes, delayed_picks, delayed_recording, delayed_recorded, delayed_ended, delayed_done, delayed_counted, delayed_wanted, delayed_popped}
use Rattle.rsx_combining.specs.Zip.{zip_comes_out, zip_waiting, zip_shown, zip_takes, zip_with_signal, zip_picks, IsZipPick, zip_rows, IsZipRow, zip_recording, zip_recorded, zip_ended, zip_done, IsZipCounted, zip_wanted, zip_popped, zip_step_allocates}
use Rattle.rsx_combining.specs.Latest.{latest_comes_out, latest_waiting, latest_shown, latest_takes, latest_with_signal, latest_picks, latest_recording, latest_recorded, latest_ended, latest_done, IsLatestCounted, latest_wanted, latest_popped}
use Rattle.rsx_kinds.specs.declared.several_node.SeveralNode.{SeveralNode}
use Rattle.rsx_kinds.specs.declared.several_node.SeveralNode.TheVariants.{Concat, Merge, MergeDelay, Zip, Latest}

-- what still comes out
abbrev pub several_comes_out : {T : Type 0} → Meaning T → SeveralNode T → Incoming T → Note → Option (Stream T)
several_comes_out m (Concat n) inc k = concat_comes_out m n inc k
several_comes_out m (Merge n) inc k = merge_comes_out m n inc k
several_comes_out m (MergeDelay n) inc k = delayed_comes_out m n inc k
several_comes_out m (Zip n) inc k = zip_comes_out m n inc k
several_comes_out m (Latest n) inc k = latest_comes_out m n inc k

-- the signal that waits
abbrev pub several_waiting : {T : Type 0} → Meaning T → SeveralNode T → Option (Signal T)
several_waiting m (Concat n) = concat_waiting m n
several_waiting m (Merge n) = merge_waiting m n
several_waiting m (MergeDelay n) = delayed_waiting m n
several_waiting m (Zip n) = zip_waiting m n
several_waiting m (Latest n) = latest_waiting m n

-- which signal that is
abbrev pub several_shown : {T : Type 0} → SeveralNode T → Option Front
several_shown (Concat n) = concat_shown n
several_shown (Merge n) = merge_shown n
several_shown (MergeDelay n) = delayed_shown n
several_shown (Zip n) = zip_shown n
several_shown (Latest n) = latest_shown n

-- whether such a signal of an input can be taken
abbrev pub several_takes : {T : Type 0} → SeveralNode T → ℕ → Front → Bool
several_takes (Concat n) i f = concat_takes n i f
several_takes (Merge n) i f = merge_takes n i f
several_takes (MergeDelay n) i f = delayed_takes n i f
several_takes (Zip n) i f = zip_takes n i f
several_takes (Latest n) i f = latest_takes n i f

-- whether an input can be picked; a concat picks none
abbrev pub several_picks : {T : Type 0} → SeveralNode T → ℕ → ℕ → ℕ → Bool
several_picks (Concat n) i asked sent = false
several_picks (Merge n) i asked sent = merge_picks n i asked sent
several_picks (MergeDelay n) i asked sent = delayed_picks n i asked sent
several_picks (Zip n) i asked sent = zip_picks n i asked sent
several_picks (Latest n) i asked sent = latest_picks n i asked sent

-- whether a row can be made; only a zip makes rows by a move of their own
abbrev pub several_rows : {T : Type 0} → SeveralNode T → ℕ → ℕ → Bool
several_rows (Concat n) asked sent = false
several_rows (Merge n) asked sent = false
several_rows (MergeDelay n) asked sent = false
several_rows (Zip n) asked sent = zip_rows n asked sent
several_rows (Latest n) asked sent = false

-- what a row makes of it
abbrev pub several_rowed : {T : Type 0} → SeveralNode T → ℕ → ℕ → SeveralNode T → Type 0
several_rowed (Zip n) asked sent (Zip k) = IsZipRow n asked sent k
several_rowed n asked sent k = ⊥

-- what it is once it took in a signal of an input. A zip made no row by that, and a combineLatest picked nothing; each other kind
-- records each step that it could make.
abbrev pub several_took : {T : Type 0} → SeveralNode T → ℕ → Signal T → SeveralNode T → Type 0
several_took (Concat n) i s k = ⊤
several_took (Merge n) i s k = ⊤
several_took (MergeDelay n) i s k = ⊤
several_took (Zip n) i s (Zip k) = k ≡ zip_with_signal n i s
several_took (Latest n) i s (Latest k) = k ≡ latest_with_signal n i s
several_took n i s k = ⊥

-- what it is once it picked an input
abbrev pub several_picked : {T : Type 0} → SeveralNode T → ℕ → SeveralNode T → Type 0
several_picked (Concat n) i k = ⊤
several_picked (Merge n) i k = ⊤
several_picked (MergeDelay n) i k = ⊤
several_picked (Zip n) i (Zip k) = IsZipPick n i k
several_picked (Zip n) i k = ⊥
several_picked (Latest n) i k = ⊤

-- what picking an input adds to what it recorded
abbrev pub several_recording : {T : Type 0} → SeveralNode T → ℕ → Note
several_recording (Concat n) i = Nothing
several_recording (Merge n) i = merge_recording n i
several_recording (MergeDelay n) i = delayed_recording n i
several_recording (Zip n) i = zip_recording n i
several_recording (Latest n) i = latest_recording n i

-- what it recorded
abbrev pub several_recorded : {T : Type 0} → SeveralNode T → Note
several_recorded (Concat n) = Nothing
several_recorded (Merge n) = merge_recorded n
several_recorded (MergeDelay n) = delayed_recorded n
several_recorded (Zip n) = zip_recorded n
several_recorded (Latest n) = latest_recorded n

-- whether its ending was put out
abbrev pub several_ended : {T : Type 0} → SeveralNode T → Bool
several_ended (Concat n) = concat_ended n
several_ended (Merge n) = merge_ended n
several_ended (MergeDelay n) = delayed_ended n
several_ended (Zip n) = zip_ended n
several_ended (Latest n) = latest_ended n

-- whether the ending of an input was taken
abbrev pub several_done : {T : Type 0} → SeveralNode T → ℕ → Bool
several_done (Concat n) i = concat_done n i
several_done (Merge n) i = merge_done n i
several_done (MergeDelay n) i = delayed_done n i
several_done (Zip n) i = zip_done n i
several_done (Latest n) i = latest_done n i

-- how many items came in at each input and how many were sent
abbrev pub several_counted : {T : Type 0} → SeveralNode T → List ℕ → ℕ → Type 0
several_counted (Concat n) taken sent = IsInTurn n taken sent
several_counted (Merge n) taken sent = merge_counted n taken sent
several_counted (MergeDelay n) taken sent = delayed_counted n taken sent
several_counted (Zip n) taken sent = IsZipCounted n taken sent
several_counted (Latest n) taken sent = IsLatestCounted n taken sent

-- what is to be asked of an input
abbrev pub several_wanted : {T : Type 0} → SeveralNode T → ℕ → ℕ → ℕ → ℕ
several_wanted (Concat n) i asked sent = concat_wanted n i asked sent
several_wanted (Merge n) i asked sent = merge_wanted n i asked sent
several_wanted (MergeDelay n) i asked sent = delayed_wanted n i asked sent
several_wanted (Zip n) i asked sent = zip_wanted n i asked sent
several_wanted (Latest n) i asked sent = latest_wanted n i asked sent

-- the second is the first without the signal that it offered
abbrev pub several_popped : {T : Type 0} → SeveralNode T → Signal T → SeveralNode T → Type 0
several_popped (Concat a) s (Concat b) = concat_popped a s b
several_popped (Merge a) s (Merge b) = merge_popped a s b
several_popped (MergeDelay a) s (MergeDelay b) = delayed_popped a s b
several_popped (Zip a) s (Zip b) = zip_popped a s b
several_popped (Latest a) s (Latest b) = latest_popped a s b
several_popped a s b = ⊥

-- whether a pick or a row may allocate
abbrev pub several_step_allocates : {T : Type 0} → Allocates → SeveralNode T → Bool
several_step_allocates a (Concat n) = false
several_step_allocates a (Merge n) = true
several_step_allocates a (MergeDelay n) = true
several_step_allocates a (Zip n) = zip_step_allocates a n
several_step_allocates a (Latest n) = true
