-- Nothing comes out of a zip that can make no row and take no ending, and into which nothing more comes.
use Rattle.std.proofs.Common.{◌≡◌, ℕ, suc, ◌<◌, ◌^◌, ◌&&◌, Bool, true, false, if◌then◌else◌, List, [], ◌∷◌, length, slice_get, Option, Some, None, option_map, refl, ap, ◌∙◌, arith}
use Rattle.std.specs.Option.{is_some}
use Rattle.std.proofs.lemmas.Bool.{lt-ltb, both_ways}
use Rattle.rsx_types.proofs.Numbers.{not_zero}
use Rattle.rsx_sources.specs.Prelude.{Ended, Open as NotEnded, Signal, Next, Complete, Error, Meaning, Stream, ended_by, AreWithin, Incoming}
use Rattle.rsx_queued.specs.declared.tail.Tail.{Tail}
use Rattle.rsx_queued.specs.declared.tail.Tail.TheVariants.{Open, Completion, Failure, Taken}
use Rattle.rsx_queued.specs.Prelude.{first_held, held_then, next_signal, unless_taken, next_signal_at, empty_of, is_empty, head_of, tail_of}
use Rattle.rsx_values.specs.Zip.{ends_after, first_ending, has_ended, items_of, shortest, zip, zip_ending, zip_rows as rows_with}
use Rattle.rsx_queued.specs.declared.input.QueuedInput.{QueuedInput}
use Rattle.rsx_combining.specs.Inputs.{AllCounted, all_have_items, ending_only, is_item, left, lefts, or_nothing}
use Rattle.rsx_combining.specs.Zip.{IsZipCounted, ZipState, zip_comes_out, zip_done, zip_picks, zip_rows, zip_takes, zip_waiting, zip_wanted}
use Rattle.rsx_queued.proofs.Outputs.{empty_then}
use Rattle.rsx_kinds.specs.QueuesRests.{NothingMore, first_still, more_behind}
use Rattle.rsx_tree.specs.Rests.{NothingComes}

-- no ending is next at any input
abbrev NoEnding : {T : Type 0} → List (QueuedInput T) → Type 0
NoEnding qs = (i : ℕ) → i < length qs → is_some (ending_only (next_signal_at (slice_get qs i))) ≡ false

ending_behind : {T : Type 0} (q : QueuedInput T) (qs : List (QueuedInput T)) → NoEnding (q ∷ qs) → NoEnding qs
ending_behind q qs h i lt = h (suc i) (omega (arith, lt))

ending_first : {T : Type 0} (q : QueuedInput T) (qs : List (QueuedInput T)) → NoEnding (q ∷ qs) → is_some (ending_only (next_signal q)) ≡ false
ending_first q qs h = h 0 (omega arith)

-- ---- one input

not_ended : {T : Type 0} (v : Stream T) → 0 < length v.items → ends_after 0 v ≡ false
not_ended v lt = ap (λ b. b && has_ended v.ending) (not_zero (length v.items) lt)

-- where an item is next, something is left
has_item : {T : Type 0} (t : Tail) (xs : List T) (v : Stream T) (x : T) → unless_taken t (first_held xs t) ≡ Some (Next x) → ends_after 0 (or_nothing (unless_taken t (Some (held_then xs t v)))) ≡ false
has_item Open [] v x e = cc
has_item Open (y ∷ ys) v x e = not_ended (held_then (y ∷ ys) Open v) (omega arith)
has_item Completion [] v x e = cc
has_item Completion (y ∷ ys) v x e = not_ended (held_then (y ∷ ys) Completion v) (omega arith)
has_item (Failure c) [] v x e = cc
has_item (Failure c) (y ∷ ys) v x e = not_ended (held_then (y ∷ ys) (Failure c) v) (omega arith)
has_item Taken xs v x e = cc

goes_on : {T : Type 0} (q : QueuedInput T) (qs : List (QueuedInput T)) (c : ℕ) (cs : List ℕ) (vs : List (Stream T)) → AllCounted (q ∷ qs) (c ∷ cs) → AreWithin (c ∷ cs) → NoEnding (q ∷ qs) → NothingMore (q ∷ qs) (c ∷ cs) vs → ends_after 0 (left q (head_of vs)) ≡ false
goes_on {T} q qs c cs vs h w n none = by_next (next_signal q) refl
  where
    by_next : (o : Option (Signal T)) → next_signal q ≡ o → ends_after 0 (left q (head_of vs)) ≡ false
    by_next None e = ap (λ o. ends_after 0 (or_nothing o)) (first_still q qs c cs vs e h.0 h.1 w.0 none)
    by_next (Some (Next x)) e = has_item q.tail q.queue.items (head_of vs) x e
    by_next (Some Complete) e = absurd (both_ways (is_some (ending_only (next_signal q))) (ending_first q qs n) (ap (λ o. is_some (ending_only o)) e))
    by_next (Some (Error f)) e = absurd (both_ways (is_some (ending_only (next_signal q))) (ending_first q qs n) (ap (λ o. is_some (ending_only o)) e))

-- ---- all inputs

none_ends : {T : Type 0} (qs : List (QueuedInput T)) (cs : List ℕ) (vs : List (Stream T)) → AllCounted qs cs → AreWithin cs → NoEnding qs → NothingMore qs cs vs → first_ending 0 (lefts qs vs) ≡ NotEnded
none_ends [] cs vs h w n none = refl
none_ends (q ∷ qs) [] vs h w n none = absurd h
none_ends (q ∷ qs) (c ∷ cs) vs h w n none =
    ap (λ b. if b then (left q (head_of vs)).ending else first_ending 0 (lefts qs (tail_of vs))) (goes_on q qs c cs vs h w n none)
    ∙ none_ends qs cs (tail_of vs) h.2 w.1 (ending_behind q qs n) (more_behind q qs c cs vs none)

short_first : {A : Type 0} (ls : List (List A)) → shortest ([] ∷ ls) ≡ 0
short_first [] = refl
short_first (ys ∷ ls) = omega arith

short_behind : {A : Type 0} (xs ys : List A) (ls : List (List A)) → shortest (ys ∷ ls) ≡ 0 → shortest (xs ∷ ys ∷ ls) ≡ 0
short_behind xs ys ls e = omega (arith, e)

some_short : {T : Type 0} (qs : List (QueuedInput T)) (cs : List ℕ) (vs : List (Stream T)) → AllCounted qs cs → AreWithin cs → NoEnding qs → NothingMore qs cs vs → all_have_items qs ≡ false → shortest (items_of (lefts qs vs)) ≡ 0
some_short [] cs vs h w n none few = cc
some_short (q ∷ qs) [] vs h w n none few = absurd h
some_short {T} (q ∷ qs) (c ∷ cs) vs h w n none few = by_next (λ f. some_short qs cs (tail_of vs) h.2 w.1 (ending_behind q qs n) (more_behind q qs c cs vs none) f) (next_signal q) refl
  where
    first_none : (o : Option (Stream T)) → o ≡ Some (ended_by NotEnded) → shortest ((or_nothing o).items ∷ items_of (lefts qs (tail_of vs))) ≡ 0
    first_none o e = ap (λ k. shortest ((or_nothing k).items ∷ items_of (lefts qs (tail_of vs)))) e ∙ short_first (items_of (lefts qs (tail_of vs)))

    behind : (rs : List (QueuedInput T)) → all_have_items rs ≡ false → shortest (items_of (lefts rs (tail_of vs))) ≡ 0 → shortest ((left q (head_of vs)).items ∷ items_of (lefts rs (tail_of vs))) ≡ 0
    behind [] f e = cc
    behind (r ∷ rs) f e = short_behind (left q (head_of vs)).items (left r (head_of (tail_of vs))).items (items_of (lefts rs (tail_of (tail_of vs)))) e

    with_item : (all_have_items qs ≡ false → shortest (items_of (lefts qs (tail_of vs))) ≡ 0) → (b : Bool) → b ≡ true → b && all_have_items qs ≡ false → shortest ((left q (head_of vs)).items ∷ items_of (lefts qs (tail_of vs))) ≡ 0
    with_item rest true e f = behind qs f (rest f)
    with_item rest false e f = cc

    by_next : (all_have_items qs ≡ false → shortest (items_of (lefts qs (tail_of vs))) ≡ 0) → (o : Option (Signal T)) → next_signal q ≡ o → shortest ((left q (head_of vs)).items ∷ items_of (lefts qs (tail_of vs))) ≡ 0
    by_next rest None e = first_none _ (first_still q qs c cs vs e h.0 h.1 w.0 none)
    by_next rest (Some (Next x)) e = with_item rest (is_item (next_signal q)) (ap is_item e) few
    by_next rest (Some Complete) e = absurd (both_ways (is_some (ending_only (next_signal q))) (ending_first q qs n) (ap (λ o. is_some (ending_only o)) e))
    by_next rest (Some (Error f)) e = absurd (both_ways (is_some (ending_only (next_signal q))) (ending_first q qs n) (ap (λ o. is_some (ending_only o)) e))

zip_none : {T : Type 0} (row : List T → T) (ls : List (Stream T)) → shortest (items_of ls) ≡ 0 → first_ending 0 ls ≡ NotEnded → zip row None ls ≡ Some (ended_by NotEnded)
zip_none {T} row ls s e =
    let Z : ℕ → Option (Stream T) = λ n. option_map (rows_with row n ls) (zip_ending n None ls) in
    ap Z s ∙ ap (λ k. Some (ended_by k)) e

pub zip_rests : {T : Type 0} (m : Meaning T) (n : ZipState T) (taken : List ℕ) (asked sent : ℕ) (inc : Incoming T) → IsZipCounted n taken sent → zip_waiting m n ≡ None → sent < asked → AreWithin taken →
    ((i : ℕ) → i < 2 ^ 64 → zip_picks n i asked sent ≡ false) → zip_rows n asked sent ≡ false → NothingComes zip_takes zip_done zip_wanted n taken asked sent (inc.first ∷ inc.others) → zip_comes_out m n inc (Ended None) ≡ Some (ended_by NotEnded)
zip_rests {T} m n taken asked sent inc counted waits more within picks rows none =
    empty_then n.output _ _ free ∙ zip_none m.row_of (lefts n.inputs vs) (some_short n.inputs taken vs counted.counts within no_ending none few_items) (none_ends n.inputs taken vs counted.counts within no_ending none)
  where
    vs : List (Stream T)
    vs = inc.first ∷ inc.others

    free : is_empty n.output ≡ true
    free = empty_of n.output waits counted.goes_on

    few_items : all_have_items n.inputs ≡ false
    few_items = rw (free, lt-ltb sent asked more, counted.some_input) at rows

    no_ending : NoEnding n.inputs
    no_ending i lt = let few = counted.few in rw (free, counted.unchosen, lt-ltb i (2 ^ 32) (omega (arith, lt, few))) at (picks i (omega (arith, lt, few)))
