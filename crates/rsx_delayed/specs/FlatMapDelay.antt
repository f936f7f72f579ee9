-- The node `flatMapDelayError`: what a `flatMap` holds, and the first failure that was picked.
use Rattle.std.specs.Prelude.{◌≡◌, ℕ, Bool, List, Option}
use Rattle.rsx_sources.specs.Prelude.{Note, Signal, Stage, Meaning, Stream, Incoming}
use Rattle.rsx_sources.specs.declared.machine.Front.{Front}
use Rattle.rsx_queued.specs.Prelude.{picked}
use Rattle.rsx_merging.specs.FlatMap.{flat_waiting, flat_shown, flat_takes, flat_picks, flat_recording, flat_recorded, flat_ended, flat_done, flat_wanted, flat_popped, left_of, IsGoing}
use Rattle.rsx_values.specs.Flat.{flat_map_delay}
use Rattle.rsx_delayed.specs.MergeDelay.{delayed_behind}
use Rattle.rsx_delayed.specs.declared.flat_map_delay_node.FlatMapDelayNode.{FlatMapDelayNode}

abbrev pub flat_delay_comes_out : {T : Type 0} → Meaning T → FlatMapDelayNode T → Incoming T → Note → Option (Stream T)
flat_delay_comes_out m n inc further = delayed_behind n.flat.output n.kept (left_of m n.flat inc.first) further

-- what comes out is `flat_map_delay` of what comes in, under what is chosen
abbrev pub GivesFlatMapDelay : {T : Type 0} → FlatMapDelayNode T → ℕ → List (Stage T) → Type 0
GivesFlatMapDelay {T} n f gs = (m : Meaning T) (inc : Incoming T) (further : Note) → flat_delay_comes_out m n inc further ≡ picked further (λ cs. flat_map_delay m f gs cs inc.first)

-- ---- all else is as of a `flatMap`

abbrev pub flat_delay_waiting : {T : Type 0} → Meaning T → FlatMapDelayNode T → Option (Signal T)
flat_delay_waiting m n = flat_waiting m n.flat

abbrev pub flat_delay_shown : {T : Type 0} → FlatMapDelayNode T → Option Front
flat_delay_shown n = flat_shown n.flat

abbrev pub flat_delay_takes : {T : Type 0} → FlatMapDelayNode T → ℕ → Front → Bool
flat_delay_takes n i f = flat_takes n.flat i f

abbrev pub flat_delay_picks : {T : Type 0} → FlatMapDelayNode T → ℕ → ℕ → ℕ → Bool
flat_delay_picks n i asked sent = flat_picks n.flat i asked sent

abbrev pub flat_delay_recording : {T : Type 0} → FlatMapDelayNode T → ℕ → Note
flat_delay_recording n i = flat_recording n.flat i

abbrev pub flat_delay_recorded : {T : Type 0} → FlatMapDelayNode T → Note
flat_delay_recorded n = flat_recorded n.flat

abbrev pub flat_delay_ended : {T : Type 0} → FlatMapDelayNode T → Bool
flat_delay_ended n = flat_ended n.flat

abbrev pub flat_delay_done : {T : Type 0} → FlatMapDelayNode T → ℕ → Bool
flat_delay_done n i = flat_done n.flat i

abbrev pub flat_delay_counted : {T : Type 0} → FlatMapDelayNode T → List ℕ → ℕ → Type 0
flat_delay_counted n taken sent = IsGoing n.flat taken sent

-- a lane goes at any ending that was picked, so it counts the lanes whose ending was picked
abbrev pub flat_delay_wanted : {T : Type 0} → FlatMapDelayNode T → ℕ → ℕ → ℕ → ℕ
flat_delay_wanted n i asked sent = flat_wanted n.flat i asked sent

abbrev pub flat_delay_popped : {T : Type 0} → FlatMapDelayNode T → Signal T → FlatMapDelayNode T → Type 0
flat_delay_popped old s new = flat_popped old.flat s new.flat × (old.kept ≡ new.kept)
