-- The laws of a merge.
use Rattle.std.specs.Prelude.{◌≡◌, ℕ, ◌<◌, ◌^◌, true, false, List, ◌∷◌, ◌++◌, length, Option, Some, None}
use Rattle.std.proofs.Common.{inl, inr, ap, sym, ◌∙◌, arith}
use Rattle.rsx_sources.specs.Prelude.{Note, Signal, Meaning, unchosen, Stream, AreWithin, CanStep, IsHungry, ends_input, Incoming, incoming_of, front_of}
use Rattle.rsx_queued.specs.Prelude.{inputs_left, offers_ending, ending_there, empty_of, settled, same_row, done_left, merge_behind, merge_cut_off, may_go_less}
use Rattle.rsx_queued.proofs.Wanting.{HasNext, Scanned, scan}
use Rattle.rsx_merging.specs.declared.merge_node.MergeNode.{MergeNode}
use Rattle.rsx_merging.specs.Merge.{merge_comes_out, merge_waiting, merge_takes, merge_picks, merge_ended, merge_done, merge_counted, merge_wanted, merge_recorded}

-- ---- once it has ended, what comes in doesn't matter

pub merge_drops : {T : Type 0} (m : Meaning T) (n : MergeNode T) (inc other : Incoming T) (further : Note) → merge_ended n ≡ true → merge_comes_out m n inc further ≡ merge_comes_out m n other further
merge_drops m n inc other further e = merge_cut_off n.output (inputs_left 0 n.inputs.items (inc.first ∷ inc.others)) (inputs_left 0 n.inputs.items (other.first ∷ other.others)) further e

pub merge_ends : {T : Type 0} (m : Meaning T) (n : MergeNode T) (s : Signal T) (inc other : Incoming T) (further : Note) → merge_waiting m n ≡ Some s → ends_input s ≡ true → merge_comes_out m n inc further ≡ merge_comes_out m n other further
merge_ends m n s inc other further w e = merge_drops m n inc other further (offers_ending n.output s w e)

-- ---- nor does what comes in at an input whose ending came in

pub merge_done_drops : {T : Type 0} (m : Meaning T) (n : MergeNode T) (hubs before after : List (Stream T)) (v w : Stream T) (further : Note) → merge_done n (length before) ≡ true →
    merge_comes_out m n (incoming_of hubs (before ++ v ∷ after)) further ≡ merge_comes_out m n (incoming_of hubs (before ++ w ∷ after)) further
merge_done_drops m n hubs before after v w further d =
    let of_row : List (Stream _) → Option (Stream _) = λ vs. merge_behind n.output (inputs_left 0 n.inputs.items vs) further in
    ap of_row (same_row hubs before after v)
    ∙ ap (λ is. merge_behind n.output is further) (done_left 0 n.inputs.items before after v w d)
    ∙ sym (ap of_row (same_row hubs before after w))

-- ---- where nothing more is chosen, something comes out

pub merge_settles : {T : Type 0} (m : Meaning T) (n : MergeNode T) (inc : Incoming T) → (v : Stream T) × (merge_comes_out m n inc (unchosen (merge_recorded n)) ≡ Some v)
merge_settles m n inc = settled n.output _ _

-- ---- it isn't stuck

pub merge_ending_waits : {T : Type 0} (m : Meaning T) (n : MergeNode T) (asked sent : ℕ) → merge_ended n ≡ true → merge_waiting m n ≡ None → sent < asked → CanStep merge_picks (λ k a s. false) n asked sent
merge_ending_waits m n asked sent e none more = absurd (ending_there n.output e none)

pub merge_hungry : {T : Type 0} (m : Meaning T) (n : MergeNode T) (taken : List ℕ) (asked sent : ℕ) → merge_ended n ≡ false → merge_counted n taken sent → merge_waiting m n ≡ None → sent < asked → AreWithin taken →
    IsHungry merge_takes merge_picks (λ k a s. false) merge_done merge_wanted (λ k. None) n taken asked sent
merge_hungry {T} m n taken asked sent still counted none more within = by_input (scan n.inputs.items taken counted.counts within counted.some_left)
  where
    picks : (p : HasNext n.inputs.items) → merge_picks n p.i asked sent ≡ true
    picks p = rw (empty_of n.output none counted.not_over, p.next) (may_go_less (front_of p.signal) asked sent more)

    low : (p : HasNext n.inputs.items) → p.i < 2 ^ 64
    low p = let lt = p.within in let few = counted.few in omega arith

    by_input : Scanned n.inputs.items taken → IsHungry merge_takes merge_picks (λ k a s. false) merge_done merge_wanted (λ k. None) n taken asked sent
    by_input (inl p) = inl (p.i, low p, picks p)
    by_input (inr p) = inr (inr (inl (record { i = p.i; c = p.c; at = p.at; open_still = p.open_still; takes_any = p.takes_any; wants = p.wants })))
