-- An input is picked: the value under the choice, and the counts.
use Rattle.std.proofs.Common.{◌≡◌, ℕ, zero, suc, ◌+◌, ◌≤◌, ◌&&◌, ◌||◌, Bool, true, false, nat_le, List, [], ◌∷◌, length, slice_get, slice_set, Option, Some, None, option_map, refl, ap, sym, ◌∙◌, subst, arith}
use Rattle.std.proofs.lemmas.Bool.Decides.{nat_tests}
use Rattle.std.proofs.lemmas.Option.{same_Some}
use Rattle.rsx_sources.specs.Prelude.{Nothing, Picks, Ended, Cause, Signal, Next, Complete, Error, Meaning, Stream, signal_then, CountsStep, Records}
use Rattle.rsx_queued.specs.declared.tail.Tail.{Tail}
use Rattle.rsx_queued.specs.declared.tail.Tail.TheVariants.{Open as Coming, Completion, Failure, Taken}
use Rattle.rsx_queued.specs.Prelude.{held_then, first_held, unless_taken, still, is_taken, is_gone, next_signal, without, IsFirst, has_ending, output_then, is_over, is_ended, next_signal_at, done_at, are_gone, AreCounted, here, inputs_left, head_of, tail_of}
use Rattle.rsx_queued.specs.declared.input.QueuedInput.{QueuedInput}
use Rattle.rsx_queued.specs.declared.output.Output.{Output}
use Rattle.rsx_queued.specs.declared.output.Output.TheVariants.{Empty}
use Rattle.rsx_queued.proofs.Counts.{counted_without}
use Rattle.rsx_queued.proofs.Outputs.{not_ended}
use Rattle.rsx_values.specs.Prelude.{InputLeft, next_of as next_chosen, all_latest, row_before, is_itemless, stops, unless_chosen, combine_until_stop}
use Rattle.rsx_values.proofs.OneChoice.{next_length}
use Rattle.rsx_values.proofs.Chosen.{item_first, last_completion, completion_first, failure_first, unless_more}
use Rattle.rsx_queued.proofs.Picks.{unequal, next_first, next_beside, none_left}
use Rattle.rsx_combining.specs.Latest.{LatestState, latest_comes_out, row_given, latest_ended, latest_done, IsLatestCounted, taken_at, made_out, completed, after_signal}

-- ---- the choice finds its input

first_of_tail : {T : Type 0} (t : Tail) (q : QueuedInput T) (xs : List T) (s : Signal T) (v : Stream T) → q.tail ≡ t → q.queue.items ≡ xs → unless_taken t (first_held xs t) ≡ Some s → IsFirst s (still q v) (still (without q (Some s)) v)
first_of_tail Coming q [] s v t e h = cc
first_of_tail {T} Coming q (x ∷ xs) s v t e h = let P : Signal T → Type 0 = λ z. IsFirst z (still q v) (still (without q (Some z)) v) in subst P (same_Some (Next x) s h) (held_then xs Coming v, rw (t, e) refl, rw (t, e) refl)
first_of_tail {T} Completion q [] s v t e h = let P : Signal T → Type 0 = λ z. IsFirst z (still q v) (still (without q (Some z)) v) in subst P (same_Some Complete s h) (rw (t, e) refl, refl)
first_of_tail {T} Completion q (x ∷ xs) s v t e h = let P : Signal T → Type 0 = λ z. IsFirst z (still q v) (still (without q (Some z)) v) in subst P (same_Some (Next x) s h) (held_then xs Completion v, rw (t, e) refl, rw (t, e) refl)
first_of_tail {T} (Failure c) q [] s v t e h = let P : Signal T → Type 0 = λ z. IsFirst z (still q v) (still (without q (Some z)) v) in subst P (same_Some (Error c) s h) (rw (t, e) refl, refl)
first_of_tail {T} (Failure c) q (x ∷ xs) s v t e h = let P : Signal T → Type 0 = λ z. IsFirst z (still q v) (still (without q (Some z)) v) in subst P (same_Some (Next x) s h) (held_then xs (Failure c) v, rw (t, e) refl, rw (t, e) refl)
first_of_tail Taken q xs s v t e h = cc

first_is : {T : Type 0} (q : QueuedInput T) (s : Signal T) (v : Stream T) → next_signal q ≡ Some s → IsFirst s (still q v) (still (without q (next_signal q)) v)
first_is {T} q s v e = let P : Option (Signal T) → Type 0 = λ o. IsFirst s (still q v) (still (without q o) v) in subst P (sym e) (first_of_tail q.tail q q.queue.items s v refl refl e)

next_at : {T : Type 0} (c k : ℕ) (qs : List (QueuedInput T)) (i : ℕ) (s : Signal T) (vs : List (Stream T)) → c ≡ k + i → next_signal_at (slice_get qs i) ≡ Some s →
    next_chosen c (inputs_left k qs vs) ≡ Some (s, inputs_left k (taken_at qs i) vs)
next_at c k [] i s vs e h = cc
next_at c k (q ∷ qs) zero s vs e h =
    let same : c ≡ k = omega arith in
    rw same (next_first k (still q (head_of vs)) (still (without q (next_signal q)) (head_of vs)) (inputs_left (suc k) qs (tail_of vs)) s (first_is q s (head_of vs) h))
next_at c k (q ∷ qs) (suc i) s vs e h =
    next_beside c k (still q (head_of vs)) (inputs_left (suc k) qs (tail_of vs)) (inputs_left (suc k) (taken_at qs i) (tail_of vs)) s (unequal c k i e) (next_at c (suc k) qs i s (tail_of vs) (omega arith) h)

-- ---- how many inputs are left

here_one : {T : Type 0} (t : Tail) (k : ℕ) (v : Stream T) (is : List (InputLeft T)) → is_taken t ≡ false → 1 ≤ length (here k (unless_taken t (Some v)) is)
here_one Coming k v is e = omega arith
here_one Completion k v is e = omega arith
here_one (Failure c) k v is e = omega arith
here_one Taken k v is e = cc

here_more : {T : Type 0} (k : ℕ) (o : Option (Stream T)) (is : List (InputLeft T)) → 1 ≤ length is → 1 ≤ length (here k o is)
here_more k None is h = h
here_more k (Some v) is h = omega arith

some_left : {T : Type 0} (k : ℕ) (qs : List (QueuedInput T)) (vs : List (Stream T)) → are_gone qs ≡ false → 1 ≤ length (inputs_left k qs vs)
some_left k [] vs e = cc
some_left {T} k (q ∷ qs) vs e = by_test (is_gone q) refl (λ r. some_left (suc k) qs (tail_of vs) r)
  where
    by_test : (b : Bool) → is_gone q ≡ b → (are_gone qs ≡ false → 1 ≤ length (inputs_left (suc k) qs (tail_of vs))) → 1 ≤ length (inputs_left k (q ∷ qs) vs)
    by_test true g r = here_more k (still q (head_of vs)) (inputs_left (suc k) qs (tail_of vs)) (r (sym (ap (λ b. b && are_gone qs) g) ∙ e))
    by_test false g r = here_one q.tail k (held_then q.queue.items q.tail (head_of vs)) (inputs_left (suc k) qs (tail_of vs)) g

-- ---- the value under the choice

one_at_most : (l : ℕ) → l ≡ 0 → nat_le (suc l) 1 ≡ true
one_at_most l e = grind (arith, nat_tests)

more_than_one : (l : ℕ) → 1 ≤ l → nat_le (suc l) 1 ≡ false
more_than_one l h = grind (arith, nat_tests)

last_test : (b g : Bool) (l : ℕ) → (g ≡ true → l ≡ 0) → (g ≡ false → 1 ≤ l) → b || nat_le (suc l) 1 ≡ b || g
last_test b true l h k = ap (λ z. b || z) (one_at_most l (h refl))
last_test b false l h k = ap (λ z. b || z) (more_than_one l (k refl))

row_made : {T : Type 0} (row : List T → T) (o : Option (List T)) (v : Option (Stream T)) (over : Option (Stream T)) → output_then (made_out (option_map row o) Empty) v over ≡ row_before row o v
row_made row None v over = refl
row_made row (Some xs) v over = refl

cut_done : {T : Type 0} (cs : List ℕ) → option_map (signal_then {T = T} Complete) (unless_chosen cs) ≡ unless_chosen cs
cut_done [] = refl
cut_done (c ∷ cs) = refl

cut_failed : {T : Type 0} (f : Cause) (cs : List ℕ) → option_map (signal_then {T = T} (Error f)) (unless_chosen cs) ≡ unless_more f cs
cut_failed f [] = refl
cut_failed f (c ∷ cs) = refl

done_by : {T : Type 0} (row : List T → T) (latest : List (Option T)) (c : ℕ) (cs : List ℕ) (is js : List (InputLeft T)) (b : Bool) → next_chosen c is ≡ Some (Complete, js) → stops latest c (length is) ≡ b →
    output_then (completed b Empty) (combine_until_stop row latest cs js) (unless_chosen cs) ≡ combine_until_stop row latest (c ∷ cs) is
done_by row latest c cs is js true h s = cut_done cs ∙ sym (last_completion row latest c cs is js h s)
done_by row latest c cs is js false h s = sym (completion_first row latest c cs is js h s)

-- the value where input i is picked first, at which s is next
pick_value : {T : Type 0} (m : Meaning T) (n : LatestState T) (i : ℕ) (made : Option T) (s : Signal T) (vs : List (Stream T)) (cs : List ℕ) → n.output ≡ Empty → next_signal_at (slice_get n.inputs i) ≡ Some s → made ≡ row_given m.row_of n.latest i (Some s) →
    let a = after_signal n i made (Some s) in
    output_then a.output (combine_until_stop m.row_of a.latest cs (inputs_left 0 a.inputs vs)) (unless_chosen cs) ≡ output_then n.output (combine_until_stop m.row_of n.latest (i ∷ cs) (inputs_left 0 n.inputs vs)) (unless_chosen (i ∷ cs))
pick_value m n i made (Next x) vs cs empty next is =
    let js = inputs_left 0 (taken_at n.inputs i) vs in
    let now = slice_set n.latest i (Some x) in
    rw (empty, is) (row_made m.row_of (all_latest now) (combine_until_stop m.row_of now cs js) (unless_chosen cs)
    ∙ sym (item_first m.row_of n.latest i cs (inputs_left 0 n.inputs vs) js x (next_at i 0 n.inputs i (Next x) vs (omega arith) next)))
pick_value m n i made Complete vs cs empty next is =
    let ks = inputs_left 0 n.inputs vs in
    let js = inputs_left 0 (taken_at n.inputs i) vs in
    let gone = are_gone (taken_at n.inputs i) in
    let found = next_at i 0 n.inputs i Complete vs (omega arith) next in
    let test : stops n.latest i (length ks) ≡ is_itemless (slice_get n.latest i) || gone =
    ap (stops n.latest i) (next_length i ks js Complete found) ∙ last_test (is_itemless (slice_get n.latest i)) gone (length js) (λ e. ap length (none_left 0 (taken_at n.inputs i) vs e)) (λ e. some_left 0 (taken_at n.inputs i) vs e) in
    rw empty (done_by m.row_of n.latest i cs ks js (is_itemless (slice_get n.latest i) || gone) found test)
pick_value m n i made (Error f) vs cs empty next is =
    rw empty (cut_failed f cs ∙ sym (failure_first m.row_of n.latest i cs (inputs_left 0 n.inputs vs) (inputs_left 0 (taken_at n.inputs i) vs) f (next_at i 0 n.inputs i (Error f) vs (omega arith) next)))

pub pick_records : {T : Type 0} (m : Meaning T) (n : LatestState T) (i : ℕ) (made : Option T) (s : Signal T) → n.output ≡ Empty → next_signal_at (slice_get n.inputs i) ≡ Some s → made ≡ row_given m.row_of n.latest i (Some s) → Records (latest_comes_out m) n (Picks (i ∷ [])) (after_signal n i made (Some s))
pick_records m n i made s empty next is inc Nothing = refl
pick_records m n i made s empty next is inc (Ended o) = refl
pick_records m n i made s empty next is inc (Picks cs) = pick_value m n i made s (inc.first ∷ inc.others) cs empty next is

-- ---- the counts

length_taken : {T : Type 0} (qs : List (QueuedInput T)) (i : ℕ) → length (taken_at qs i) ≡ length qs
length_taken [] i = refl
length_taken (q ∷ qs) zero = refl
length_taken (q ∷ qs) (suc i) = ap suc (length_taken qs i)

counted_taken : {T : Type 0} (qs : List (QueuedInput T)) (i : ℕ) (cs : List ℕ) → AreCounted qs cs → AreCounted (taken_at qs i) cs
counted_taken [] i cs h = h
counted_taken (q ∷ qs) i [] h = absurd h
counted_taken (q ∷ qs) zero (c ∷ cs) h = (counted_without q c h.0, h.1)
counted_taken (q ∷ qs) (suc i) (c ∷ cs) h = (h.0, counted_taken qs i cs h.1)

come_without : {T : Type 0} (q : QueuedInput T) (o : Option (Signal T)) → is_ended q.tail ≡ true → is_ended (without q o).tail ≡ true
come_without q None e = e
come_without q (Some (Next x)) e = e
come_without q (Some Complete) e = refl
come_without q (Some (Error c)) e = refl

done_taken : {T : Type 0} (qs : List (QueuedInput T)) (i j : ℕ) → done_at (slice_get qs j) ≡ true → done_at (slice_get (taken_at qs i) j) ≡ true
done_taken [] i j d = d
done_taken (q ∷ qs) zero zero d = come_without q (next_signal q) d
done_taken (q ∷ qs) zero (suc j) d = d
done_taken (q ∷ qs) (suc i) zero d = d
done_taken (q ∷ qs) (suc i) (suc j) d = done_taken qs i j d

-- an input that has an item next isn't gone, nor is it without that item
not_taken : {T : Type 0} (t : Tail) (xs : List T) (x : T) → unless_taken t (first_held xs t) ≡ Some (Next x) → is_taken t ≡ false
not_taken Coming xs x e = refl
not_taken Completion xs x e = refl
not_taken (Failure c) xs x e = refl
not_taken Taken xs x e = cc

item_left : {T : Type 0} (qs : List (QueuedInput T)) (i : ℕ) (x : T) → next_signal_at (slice_get qs i) ≡ Some (Next x) → are_gone (taken_at qs i) ≡ false
item_left [] i x e = cc
item_left {T} (q ∷ qs) zero x e = ap (λ o. is_gone (without q o) && are_gone qs) e ∙ ap (λ b. b && are_gone qs) (not_taken q.tail q.queue.items x e)
item_left (q ∷ qs) (suc i) x e = by_test (is_gone q) (item_left qs i x e)
  where
    by_test : (b : Bool) → are_gone (taken_at qs i) ≡ false → b && are_gone (taken_at qs i) ≡ false
    by_test true r = r
    by_test false r = refl

not_over_made : {T : Type 0} (made : Option T) → is_over (made_out made Empty) ≡ false
not_over_made None = refl
not_over_made (Some y) = refl

completed_off : (T : Type 0) (b : Bool) (g : Bool) → has_ending (completed {T = T} (b || g) Empty) ≡ false → g ≡ false
completed_off T true g e = cc
completed_off T false true e = cc
completed_off T false false e = refl

not_over_completed : (T : Type 0) (b : Bool) → is_over (completed {T = T} b Empty) ≡ false
not_over_completed T true = refl
not_over_completed T false = refl

still_counts : {T : Type 0} (n : LatestState T) (i : ℕ) (made : Option T) (s : Signal T) → n.output ≡ Empty → next_signal_at (slice_get n.inputs i) ≡ Some s → latest_ended (after_signal n i made (Some s)) ≡ false → (taken : List ℕ) (sent : ℕ) → IsLatestCounted n taken sent → IsLatestCounted (after_signal n i made (Some s)) taken sent
still_counts n i made (Next x) empty next e taken sent c =
    record {
      goes_on = rw empty (not_over_made made);
      some_left = item_left n.inputs i x next;
      few = let few = c.few in let l = length_taken n.inputs i in omega (arith, l, few);
      counts = counted_taken n.inputs i taken c.counts;
    }
still_counts {T} n i made Complete empty next e taken sent c =
    let P : Output T → Type 0 = λ o. has_ending (completed (is_itemless (slice_get n.latest i) || are_gone (taken_at n.inputs i)) o) ≡ false in
    record {
      goes_on = rw empty (not_over_completed T (is_itemless (slice_get n.latest i) || are_gone (taken_at n.inputs i)));
      some_left = completed_off T (is_itemless (slice_get n.latest i)) (are_gone (taken_at n.inputs i)) (subst P empty e);
      few = let few = c.few in let l = length_taken n.inputs i in omega (arith, l, few);
      counts = counted_taken n.inputs i taken c.counts;
    }
still_counts n i made (Error f) empty next e taken sent c = cc

done_after : {T : Type 0} (n : LatestState T) (i : ℕ) (made : Option T) (s : Signal T) (j : ℕ) → latest_done n j ≡ true → latest_done (after_signal n i made (Some s)) j ≡ true
done_after n i made (Next x) j d = done_taken n.inputs i j d
done_after n i made Complete j d = done_taken n.inputs i j d
done_after n i made (Error c) j d = done_taken n.inputs i j d

pub pick_counts : {T : Type 0} (n : LatestState T) (i : ℕ) (made : Option T) (s : Signal T) → n.output ≡ Empty → next_signal_at (slice_get n.inputs i) ≡ Some s → CountsStep IsLatestCounted latest_ended latest_done n (after_signal n i made (Some s))
pick_counts n i made s empty next =
    record {
      stays_ended = λ e. absurd (not_ended n.output empty e);
      counts = still_counts n i made s empty next;
      stays_done = λ j d. done_after n i made s j d;
    }
