-- The laws of a merge that delays failures.
use Rattle.std.specs.Prelude.{◌≡◌, ℕ, ◌<◌, ◌^◌, true, false, List, [], ◌∷◌, ◌++◌, length, Option, Some, None}
use Rattle.std.proofs.Common.{inl, inr, ap, sym, ◌∙◌, arith}
use Rattle.rsx_sources.specs.Prelude.{Note, Cause, Signal, Meaning, unchosen, Stream, AreWithin, CanStep, IsHungry, ends_input, Incoming, incoming_of, front_of}
use Rattle.rsx_queued.specs.Prelude.{inputs_left, has_ending, offers_ending, ending_there, ended_out, empty_of, picked_same, settled, same_row, done_left, output_then, may_go_less}
use Rattle.rsx_queued.specs.declared.output.Output.{Output}
use Rattle.rsx_queued.proofs.Wanting.{HasNext, Scanned, scan}
use Rattle.rsx_values.specs.Pick.{InputLeft}
use Rattle.rsx_values.specs.Delayed.{merge_delayed_inputs}
use Rattle.rsx_delayed.specs.declared.merge_delay_node.MergeDelayNode.{MergeDelayNode}
use Rattle.rsx_delayed.specs.MergeDelay.{delayed_behind, delayed_comes_out, delayed_waiting, delayed_takes, delayed_picks, delayed_ended, delayed_done, delayed_counted, delayed_wanted, delayed_recorded}

-- ---- once it has ended, what comes in doesn't matter

-- an ending that waits cuts off the inputs
pub cut_off : {T : Type 0} (out : Output T) (kept : Option Cause) (is js : List (InputLeft T)) (further : Note) → has_ending out ≡ true → delayed_behind out kept is further ≡ delayed_behind out kept js further
cut_off out kept is js further e =
    picked_same further (λ cs. output_then out (merge_delayed_inputs kept cs is) (merge_delayed_inputs None cs [])) (λ cs. output_then out (merge_delayed_inputs kept cs js) (merge_delayed_inputs None cs []))
    (λ cs. ended_out out (merge_delayed_inputs kept cs is) (merge_delayed_inputs kept cs js) (merge_delayed_inputs None cs []) e)

pub delayed_drops : {T : Type 0} (m : Meaning T) (n : MergeDelayNode T) (inc other : Incoming T) (further : Note) → delayed_ended n ≡ true → delayed_comes_out m n inc further ≡ delayed_comes_out m n other further
delayed_drops m n inc other further e = cut_off n.output n.kept (inputs_left 0 n.inputs.items (inc.first ∷ inc.others)) (inputs_left 0 n.inputs.items (other.first ∷ other.others)) further e

pub delayed_ends : {T : Type 0} (m : Meaning T) (n : MergeDelayNode T) (s : Signal T) (inc other : Incoming T) (further : Note) → delayed_waiting m n ≡ Some s → ends_input s ≡ true → delayed_comes_out m n inc further ≡ delayed_comes_out m n other further
delayed_ends m n s inc other further w e = delayed_drops m n inc other further (offers_ending n.output s w e)

-- ---- nor does what comes in at an input whose ending came in

pub delayed_done_drops : {T : Type 0} (m : Meaning T) (n : MergeDelayNode T) (hubs before after : List (Stream T)) (v w : Stream T) (further : Note) → delayed_done n (length before) ≡ true →
    delayed_comes_out m n (incoming_of hubs (before ++ v ∷ after)) further ≡ delayed_comes_out m n (incoming_of hubs (before ++ w ∷ after)) further
delayed_done_drops m n hubs before after v w further d =
    let of_row : List (Stream _) → Option (Stream _) = λ vs. delayed_behind n.output n.kept (inputs_left 0 n.inputs.items vs) further in
    ap of_row (same_row hubs before after v)
    ∙ ap (λ is. delayed_behind n.output n.kept is further) (done_left 0 n.inputs.items before after v w d)
    ∙ sym (ap of_row (same_row hubs before after w))

-- ---- where nothing more is chosen, something comes out

pub delayed_settles : {T : Type 0} (m : Meaning T) (n : MergeDelayNode T) (inc : Incoming T) → (v : Stream T) × (delayed_comes_out m n inc (unchosen (delayed_recorded n)) ≡ Some v)
delayed_settles m n inc = settled n.output _ _

-- ---- it isn't stuck

pub delayed_ending_waits : {T : Type 0} (m : Meaning T) (n : MergeDelayNode T) (asked sent : ℕ) → delayed_ended n ≡ true → delayed_waiting m n ≡ None → sent < asked → CanStep delayed_picks (λ k a s. false) n asked sent
delayed_ending_waits m n asked sent e none more = absurd (ending_there n.output e none)

pub delayed_hungry : {T : Type 0} (m : Meaning T) (n : MergeDelayNode T) (taken : List ℕ) (asked sent : ℕ) → delayed_ended n ≡ false → delayed_counted n taken sent → delayed_waiting m n ≡ None → sent < asked → AreWithin taken →
    IsHungry delayed_takes delayed_picks (λ k a s. false) delayed_done delayed_wanted (λ k. None) n taken asked sent
delayed_hungry {T} m n taken asked sent still counted none more within = by_input (scan n.inputs.items taken counted.counts within counted.some_left)
  where
    picks : (p : HasNext n.inputs.items) → delayed_picks n p.i asked sent ≡ true
    picks p = rw (empty_of n.output none counted.not_over, p.next) (may_go_less (front_of p.signal) asked sent more)

    low : (p : HasNext n.inputs.items) → p.i < 2 ^ 64
    low p = let lt = p.within in let few = counted.few in omega arith

    by_input : Scanned n.inputs.items taken → IsHungry delayed_takes delayed_picks (λ k a s. false) delayed_done delayed_wanted (λ k. None) n taken asked sent
    by_input (inl p) = inl (p.i, low p, picks p)
    by_input (inr p) = inr (inr (inl (record { i = p.i; c = p.c; at = p.at; open_still = p.open_still; takes_any = p.takes_any; wants = p.wants })))
