-- The laws of a `flatMap` that delays failures.
use Rattle.std.specs.Prelude.{◌≡◌, ℕ, ◌<◌, true, false, List, [], ◌∷◌, ◌++◌, length, Some, None, refl}
use Rattle.std.proofs.Common.{inl, inr, ap}
use Rattle.rsx_sources.specs.Prelude.{Note, Signal, Meaning, unchosen, Stream, AreWithin, CanStep, IsHungry, ends_input, Incoming, incoming_of}
use Rattle.rsx_queued.specs.Prelude.{offers_ending, settled}
use Rattle.rsx_values.specs.Pick.{InputLeft}
use Rattle.rsx_merging.specs.Coming.{lanes_to_come}
use Rattle.rsx_merging.specs.FlatMap.{flat_takes, flat_picks, flat_done, flat_wanted, left_of}
use Rattle.rsx_merging.specs.FlatMapLaws.{closed_left, flat_ending_waits, flat_hungry}
use Rattle.rsx_delayed.specs.MergeDelay.{delayed_behind}
use Rattle.rsx_delayed.specs.MergeDelayLaws.{cut_off}
use Rattle.rsx_delayed.specs.FlatMapDelay.{flat_delay_comes_out, flat_delay_counted, flat_delay_done, flat_delay_ended, flat_delay_picks, flat_delay_recorded, flat_delay_takes, flat_delay_waiting, flat_delay_wanted}
use Rattle.rsx_delayed.specs.declared.flat_map_delay_node.FlatMapDelayNode.{FlatMapDelayNode}

-- ---- once it has ended, what comes in doesn't matter

pub flat_delay_drops : {T : Type 0} (m : Meaning T) (n : FlatMapDelayNode T) (inc other : Incoming T) (further : Note) → flat_delay_ended n ≡ true → flat_delay_comes_out m n inc further ≡ flat_delay_comes_out m n other further
flat_delay_drops m n inc other further e = cut_off n.flat.output n.kept (left_of m n.flat inc.first) (left_of m n.flat other.first) further e

pub flat_delay_ends : {T : Type 0} (m : Meaning T) (n : FlatMapDelayNode T) (s : Signal T) (inc other : Incoming T) (further : Note) → flat_delay_waiting m n ≡ Some s → ends_input s ≡ true → flat_delay_comes_out m n inc further ≡ flat_delay_comes_out m n other further
flat_delay_ends m n s inc other further w e = flat_delay_drops m n inc other further (offers_ending n.flat.output s w e)

-- ---- nor does what comes in behind the ending of the input

pub flat_delay_done_drops : {T : Type 0} (m : Meaning T) (n : FlatMapDelayNode T) (hubs before after : List (Stream T)) (v w : Stream T) (further : Note) → flat_delay_done n (length before) ≡ true →
    flat_delay_comes_out m n (incoming_of hubs (before ++ v ∷ after)) further ≡ flat_delay_comes_out m n (incoming_of hubs (before ++ w ∷ after)) further
flat_delay_done_drops {T} m n hubs [] after v w further d =
    let coming : Stream T → List (InputLeft T) = λ z. lanes_to_come m n.flat.expansion.function n.flat.expansion.stages.items n.flat.next z in
    ap (λ is. delayed_behind n.flat.output n.kept (n.flat.lanes ++ is) further) (closed_left n.flat.closed (coming v) (coming w) d)
flat_delay_done_drops m n hubs (b ∷ before) after v w further d = refl

-- ---- where nothing more is chosen, something comes out

pub flat_delay_settles : {T : Type 0} (m : Meaning T) (n : FlatMapDelayNode T) (inc : Incoming T) → (v : Stream T) × (flat_delay_comes_out m n inc (unchosen (flat_delay_recorded n)) ≡ Some v)
flat_delay_settles m n inc = settled n.flat.output _ _

-- ---- it isn't stuck

pub flat_delay_ending_waits : {T : Type 0} (m : Meaning T) (n : FlatMapDelayNode T) (asked sent : ℕ) → flat_delay_ended n ≡ true → flat_delay_waiting m n ≡ None → sent < asked → CanStep flat_delay_picks (λ k a s. false) n asked sent
flat_delay_ending_waits m n asked sent e none more = flat_ending_waits m n.flat asked sent e none more

pub flat_delay_hungry : {T : Type 0} (m : Meaning T) (n : FlatMapDelayNode T) (taken : List ℕ) (asked sent : ℕ) → flat_delay_ended n ≡ false → flat_delay_counted n taken sent → flat_delay_waiting m n ≡ None → sent < asked → AreWithin taken →
    IsHungry flat_delay_takes flat_delay_picks (λ k a s. false) flat_delay_done flat_delay_wanted (λ k. None) n taken asked sent
flat_delay_hungry {T} m n taken asked sent still going none more within = by_step (flat_hungry m n.flat taken asked sent still going none more within)
  where
    by_step : IsHungry flat_takes flat_picks (λ k a s. false) flat_done flat_wanted (λ k. None) n.flat taken asked sent →
        IsHungry flat_delay_takes flat_delay_picks (λ k a s. false) flat_delay_done flat_delay_wanted (λ k. None) n taken asked sent
    by_step (inl p) = inl p
    by_step (inr (inl p)) = inr (inl p)
    by_step (inr (inr (inl p))) = inr (inr (inl (record { i = p.i; c = p.c; at = p.at; open_still = p.open_still; takes_any = p.takes_any; wants = p.wants })))
    by_step (inr (inr (inr p))) = inr (inr (inr p))
