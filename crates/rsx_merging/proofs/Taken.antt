-- A signal of the input comes in: the value, and the counts.
use Rattle.std.proofs.Common.{◌≡◌, ℕ, ◌+◌, ◌<◌, ◌^◌, Bool, true, false, List, [], ◌∷◌, ◌++◌, refl, ap, sym, ◌∙◌, append_assoc, add-one, arith}
use Rattle.std.proofs.lemmas.List.{append-nil}
use Rattle.rsx_sources.specs.Prelude.{Ending, Signal, Next, Complete, Error, Stage, Meaning, Stream, item_then, signal_then, signals, CountsIn, one_more, ends_input, TakesIn, in_front, IsTakenIn, is_nil}
use Rattle.rsx_plain.specs.Moves.{has_ended, has_ending}
use Rattle.rsx_values.specs.Prelude.{InputLeft, main_input}
use Rattle.rsx_queued.specs.Merged.{merge_behind}
use Rattle.rsx_values.specs.declared.limits.TheConstants.{MAIN}
use Rattle.rsx_merging.specs.Coming.{lane_answer, lanes_to_come, lanes_left}
use Rattle.rsx_merging.specs.FlatMap.{flat_comes_out, flat_takes, flat_recorded, flat_ended, flat_done, with_lane, with_main, CountsLanes, IsGoing}
use Rattle.rsx_merging.specs.Lanes.{AreWhole}
use Rattle.rsx_merging.specs.declared.flat_map_node.FlatMapNode.{FlatMapNode}
use Rattle.std.specs.Prelude.{Ok}
use Rattle.rsx_merging.proofs.Coming.{lane_next}
use Rattle.rsx_merging.proofs.Picked.{done_same}
use Rattle.rsx_plain.proofs.Ended.{signals_end}

-- ---- the value

pub lane_left : {T : Type 0} (m : Meaning T) (f : ℕ) (gs : List (Stage T)) (lanes : List (InputLeft T)) (n : ℕ) (closed : Bool) (x : T) (v w : Stream T) → closed ≡ false → lane_answer m f gs x ≡ Ok v →
    lanes_left m f gs (lanes ++ (n, signals v) ∷ []) (n + 1) closed w ≡ lanes_left m f gs lanes n closed (item_then x w)
lane_left m f gs lanes n closed x v w open_still h =
    rw open_still (append_assoc lanes ((n, signals v) ∷ []) (lanes_to_come m f gs (n + 1) w)
    ∙ ap (λ k. lanes ++ (n, signals v) ∷ lanes_to_come m f gs k w) (add-one n) ∙ ap (λ is. lanes ++ is) (sym (lane_next m f gs n x w.items w.ending v h)))

-- an item came in, whose lane this is
pub lane_comes_in : {T : Type 0} (m : Meaning T) (old new : FlatMapNode T) (i : ℕ) (s : Signal T) (x : T) (v : Stream T) → i ≡ 0 → s ≡ Next x → old.closed ≡ false → lane_answer m old.expansion.function old.expansion.stages.items x ≡ Ok v → new ≡ with_lane old v →
    TakesIn (flat_comes_out m) old i s new
lane_comes_in m old new i s x v first item open_still answer is inc further =
    ap (λ n. flat_comes_out m n inc further) is
    ∙ ap (λ l. merge_behind old.output l further) (lane_left m old.expansion.function old.expansion.stages.items old.lanes old.next old.closed x v inc.first open_still answer)
    ∙ sym (λ j. flat_comes_out m old (in_front (first j) (item j) inc) further)

pub main_left : {T : Type 0} (m : Meaning T) (f : ℕ) (gs : List (Stage T)) (lanes : List (InputLeft T)) (n : ℕ) (closed : Bool) (e : Ending) (v w : Stream T) → closed ≡ false → lanes_to_come m f gs n w ≡ main_input e →
    lanes_left m f gs (lanes ++ main_input e) n true v ≡ lanes_left m f gs lanes n closed w
main_left m f gs lanes n closed e v w open_still h = rw open_still (append-nil (lanes ++ main_input e) ∙ ap (λ is. lanes ++ is) (sym h))

-- a signal came in that is the last: nothing comes behind it but Main with this ending
pub main_comes_in : {T : Type 0} (m : Meaning T) (old new : FlatMapNode T) (i : ℕ) (s t : Signal T) (e : Ending) → i ≡ 0 → s ≡ t → old.closed ≡ false → ((v : Stream T) → lanes_to_come m old.expansion.function old.expansion.stages.items old.next (signal_then t v) ≡ main_input e) → new ≡ with_main old e →
    TakesIn (flat_comes_out m) old i s new
main_comes_in m old new i s t e first signal open_still last is inc further =
    ap (λ n. flat_comes_out m n inc further) is
    ∙ ap (λ l. merge_behind old.output l further) (main_left m old.expansion.function old.expansion.stages.items old.lanes old.next old.closed e inc.first (signal_then t inc.first) open_still (last inc.first))
    ∙ sym (λ j. flat_comes_out m old (in_front (first j) (signal j) inc) further)

-- ---- the counts

whole_more : {T : Type 0} (is : List (InputLeft T)) (k : ℕ) (ss : List (Signal T)) → k < 2 ^ 64 → has_ending ss ≡ true → AreWhole is → AreWhole (is ++ (k, ss) ∷ [])
whole_more [] k ss lt e h = (lt, e, tt)
whole_more (i ∷ is) k ss lt e h = (h.0, h.1, whole_more is k ss lt e h.2)

some_more : {A : Type 0} (is : List A) (i : A) → is_nil (is ++ i ∷ []) ≡ false
some_more [] i = refl
some_more (j ∷ is) i = refl

one_lane_more : (closed : Bool) (conc next : ℕ) (taken : List ℕ) → CountsLanes closed conc next taken → CountsLanes closed conc (next + 1) (one_more 0 taken)
one_lane_more true conc next taken h = tt
one_lane_more false conc next taken h = (h.0, rw h.1 refl)

no_ending : {T : Type 0} (s : Signal T) (x : T) → s ≡ Next x → ends_input s ≡ true → ⊥
no_ending (Next y) x is e = cc
no_ending Complete x is e = cc
no_ending (Error c) x is e = cc

pub lane_counts : {T : Type 0} (old new : FlatMapNode T) (i : ℕ) (s : Signal T) (x : T) (v : Stream T) → i ≡ 0 → s ≡ Next x → old.closed ≡ false → old.next < 2 ^ 64 → has_ended v.ending ≡ true → new ≡ with_lane old v →
    CountsIn IsGoing flat_ended flat_done old i s new
lane_counts old new i s x v first item open_still few ends is =
    record {
      stays_ended = λ e. ap flat_ended is ∙ e;
      counts = λ still taken sent h. rw (is, first, item) (record {
        not_over = h.not_over;
        some_left = rw open_still refl;
        whole = whole_more old.lanes old.next (signals v) few (signals_end v.items v.ending ends) h.whole;
        counts = one_lane_more old.closed old.concurrency old.next taken h.counts;
      });
      stays_done = λ j d. done_same old new j (λ c. ap (λ n. n.closed) is ∙ c) d;
      is_done = λ going e. absurd (no_ending s x item e);
    }

open_counts : {T : Type 0} (n : FlatMapNode T) (k sent : ℕ) (taken any : List ℕ) (e : Ending) → has_ended e ≡ true → IsGoing n taken sent → IsGoing (with_main n e) any sent
open_counts n k sent taken any e ends h =
    record {
      not_over = h.not_over;
      some_left = some_more n.lanes (MAIN, signals (record { items = []; ending = e }));
      whole = whole_more n.lanes MAIN (signals (record { items = []; ending = e })) (omega arith) (signals_end [] e ends) h.whole;
      counts = tt;
    }

pub main_counts : {T : Type 0} (old new : FlatMapNode T) (i : ℕ) (s : Signal T) (e : Ending) → i ≡ 0 → has_ended e ≡ true → new ≡ with_main old e → CountsIn IsGoing flat_ended flat_done old i s new
main_counts old new i s e first ends is =
    record {
      stays_ended = λ h. ap flat_ended is ∙ h;
      counts = λ still taken sent h. rw is (open_counts old i sent taken _ e ends h);
      stays_done = λ j d. done_same old new j (λ c. ap (λ n. n.closed) is) d;
      is_done = λ going h. rw (is, first) refl;
    }

-- ---- an item in one go

pub lane_taken_in : {T : Type 0} (m : Meaning T) (old new : FlatMapNode T) (i : ℕ) (x : T) (v : Stream T) → i ≡ 0 → old.closed ≡ false → flat_ended old ≡ false → old.next < 2 ^ 64 → has_ended v.ending ≡ true →
    lane_answer m old.expansion.function old.expansion.stages.items x ≡ Ok v → new ≡ with_lane old v →
    IsTakenIn (flat_comes_out m) flat_takes flat_recorded IsGoing flat_ended flat_done old i (Next x) new
lane_taken_in m old new i x v first open_still going few ends answer is = record {
  enabled = rw first refl;
  value = lane_comes_in m old new i (Next x) x v first refl open_still answer is;
  notes = rw is refl;
  counts = lane_counts old new i (Next x) x v first refl open_still few ends is;
  goes_on = ap flat_ended is ∙ going;
}
