-- Nothing comes out of a merge, or one that delays failures, of inputs from which nothing can be picked, and at which nothing more comes in.
use Rattle.std.proofs.Common.{◌≡◌, ℕ, ◌<◌, ◌^◌, Bool, true, false, nat_eq, if◌then◌else◌, List, [], ◌∷◌, length, slice_get, Option, Some, None, refl, ap, ◌∙◌, arith}
use Rattle.std.proofs.lemmas.Bool.Decides.{nat_tests}
use Rattle.rsx_sources.specs.Prelude.{Picks, Cause, Ending, Open, Done, Signal, Meaning, ended_by, AreWithin, Incoming, front_of}
use Rattle.rsx_values.specs.Prelude.{merge_inputs, merged, InputLeft}
use Rattle.rsx_queued.specs.Prelude.{inputs_left, next_signal_at, empty_of, is_empty, may_go_less}
use Rattle.rsx_queued.proofs.Outputs.{empty_then}
use Rattle.rsx_merging.specs.Merge.{merge_comes_out, merge_counted, merge_done, merge_picks, merge_takes, merge_waiting, merge_wanted}
use Rattle.rsx_merging.specs.declared.merge_node.MergeNode.{MergeNode}
use Rattle.rsx_values.specs.Delayed.{ending_of, merge_delayed_inputs, merged_delayed, rest_of_all, all_of}
use Rattle.rsx_delayed.specs.MergeDelay.{delayed_comes_out, delayed_counted, delayed_done, delayed_picks, delayed_takes, delayed_waiting, delayed_wanted}
use Rattle.rsx_delayed.specs.declared.merge_delay_node.MergeDelayNode.{MergeDelayNode}
use Rattle.rsx_kinds.specs.QueuesRests.{AreEmpty, NothingNext, all_empty, nothing_rest, some_left}
use Rattle.rsx_tree.specs.Rests.{NothingComes}

never : (b : Bool) → b ≡ true → b ≡ false → ⊥
never b x y = cc

-- the inputs that are left have nothing, so the merge of them is open
pub left_open : (n : ℕ) → 0 < n → (if nat_eq n 0 then Done else Open) ≡ Open
left_open n lt = by_test (nat_eq n 0) (grind (arith, nat_tests))
  where
    by_test : (b : Bool) → b ≡ false → (if b then Done else Open) ≡ Open
    by_test true e = cc
    by_test false e = refl

merge_empty : {T : Type 0} (is : List (InputLeft T)) → AreEmpty is → 0 < length is → merge_inputs [] is ≡ Some (ended_by Open)
merge_empty is e lt = ap (λ ts. Some (merged (length is) ts)) (nothing_rest is e) ∙ ap (λ k. Some (ended_by k)) (left_open (length is) lt)

-- nothing is next at any input, since it could be picked
pub merge_rests : {T : Type 0} (m : Meaning T) (n : MergeNode T) (taken : List ℕ) (asked sent : ℕ) (inc : Incoming T) → merge_counted n taken sent → merge_waiting m n ≡ None → sent < asked → AreWithin taken →
    ((i : ℕ) → i < 2 ^ 64 → merge_picks n i asked sent ≡ false) → NothingComes merge_takes merge_done merge_wanted n taken asked sent (inc.first ∷ inc.others) → merge_comes_out m n inc (Picks []) ≡ Some (ended_by Open)
merge_rests {T} m n taken asked sent inc counted waits more within picks none =
    empty_then n.output _ _ free ∙ merge_empty (inputs_left 0 n.inputs.items (inc.first ∷ inc.others)) (all_empty 0 n.inputs.items taken (inc.first ∷ inc.others) counted.counts within nothing none) (some_left 0 n.inputs.items taken (inc.first ∷ inc.others) counted.counts within nothing none counted.some_left)
  where
    free : is_empty n.output ≡ true
    free = empty_of n.output waits counted.not_over

    nothing : NothingNext n.inputs.items
    nothing i lt = by_next (next_signal_at (slice_get n.inputs.items i)) refl
      where
        by_next : (o : Option (Signal T)) → next_signal_at (slice_get n.inputs.items i) ≡ o → o ≡ None
        by_next None e = refl
        by_next (Some s) e = let few = counted.few in absurd (never (merge_picks n i asked sent) (rw (free, e) (may_go_less (front_of s) asked sent more)) (picks i (omega (arith, lt, few))))

-- ---- and so of a merge that delays failures

held_open : (e : Ending) (n : ℕ) → 0 < n → (if nat_eq n 0 then e else Open) ≡ Open
held_open e n lt = by_test (nat_eq n 0) (grind (arith, nat_tests))
  where
    by_test : (b : Bool) → b ≡ false → (if b then e else Open) ≡ Open
    by_test true h = cc
    by_test false h = refl

nothing_rest_of_all : {T : Type 0} (is : List (InputLeft T)) → AreEmpty is → rest_of_all is ≡ []
nothing_rest_of_all [] h = refl
nothing_rest_of_all (i ∷ is) h = ap (λ l. all_of i.0 l (rest_of_all is)) h.0 ∙ nothing_rest_of_all is h.1

delayed_empty : {T : Type 0} (kept : Option Cause) (is : List (InputLeft T)) → AreEmpty is → 0 < length is → merge_delayed_inputs kept [] is ≡ Some (ended_by Open)
delayed_empty kept is e lt = ap (λ ts. Some (merged_delayed (length is) kept ts)) (nothing_rest_of_all is e) ∙ ap (λ k. Some (ended_by k)) (held_open (ending_of kept) (length is) lt)

-- nothing is next at any input, since it could be picked
pub merge_delay_rests : {T : Type 0} (m : Meaning T) (n : MergeDelayNode T) (taken : List ℕ) (asked sent : ℕ) (inc : Incoming T) → delayed_counted n taken sent → delayed_waiting m n ≡ None → sent < asked → AreWithin taken →
    ((i : ℕ) → i < 2 ^ 64 → delayed_picks n i asked sent ≡ false) → NothingComes delayed_takes delayed_done delayed_wanted n taken asked sent (inc.first ∷ inc.others) → delayed_comes_out m n inc (Picks []) ≡ Some (ended_by Open)
merge_delay_rests {T} m n taken asked sent inc counted waits more within picks none =
    empty_then n.output _ _ free ∙ delayed_empty n.kept (inputs_left 0 n.inputs.items (inc.first ∷ inc.others)) (all_empty 0 n.inputs.items taken (inc.first ∷ inc.others) counted.counts within nothing none) (some_left 0 n.inputs.items taken (inc.first ∷ inc.others) counted.counts within nothing none counted.some_left)
  where
    free : is_empty n.output ≡ true
    free = empty_of n.output waits counted.not_over

    nothing : NothingNext n.inputs.items
    nothing i lt = by_next (next_signal_at (slice_get n.inputs.items i)) refl
      where
        by_next : (o : Option (Signal T)) → next_signal_at (slice_get n.inputs.items i) ≡ o → o ≡ None
        by_next None e = refl
        by_next (Some s) e = let few = counted.few in absurd (never (delayed_picks n i asked sent) (rw (free, e) (may_go_less (front_of s) asked sent more)) (picks i (omega (arith, lt, few))))
