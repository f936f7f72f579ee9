-- A signal of the input comes in: the value, and the counts.
use Rattle.std.proofs.Common.{◌≡◌, ℕ, ◌<◌, ◌^◌, true, false, Ok, refl, ap, sym, ◌∙◌}
use Rattle.rsx_sources.specs.Prelude.{Ending, Signal, Next, Meaning, Stream, signal_then, CountsIn, TakesIn, in_front, IsTakenIn}
use Rattle.rsx_plain.specs.Moves.{has_ended}
use Rattle.rsx_values.specs.Prelude.{main_input}
use Rattle.rsx_merging.proofs.Taken.{lane_left, main_left, lane_counts, main_counts}
use Rattle.rsx_merging.specs.Coming.{lane_answer, lanes_to_come}
use Rattle.rsx_merging.specs.FlatMap.{flat_done, flat_ended, with_lane, with_main, left_of, IsGoing}
use Rattle.rsx_merging.specs.declared.flat_map_node.FlatMapNode.{FlatMapNode}
use Rattle.rsx_delayed.specs.MergeDelay.{delayed_behind}
use Rattle.rsx_delayed.specs.FlatMapDelay.{flat_delay_comes_out, flat_delay_counted, flat_delay_done, flat_delay_ended, flat_delay_recorded, flat_delay_takes}
use Rattle.rsx_delayed.specs.declared.flat_map_delay_node.FlatMapDelayNode.{FlatMapDelayNode}

-- ---- the value

-- an item came in, whose lane this is
pub lane_comes_in : {T : Type 0} (m : Meaning T) (old : FlatMapDelayNode T) (new : FlatMapNode T) (i : ℕ) (s : Signal T) (x : T) (v : Stream T) → i ≡ 0 → s ≡ Next x → old.flat.closed ≡ false →
    lane_answer m old.flat.expansion.function old.flat.expansion.stages.items x ≡ Ok v → new ≡ with_lane old.flat v → TakesIn (flat_delay_comes_out m) old i s (record old { flat = new })
lane_comes_in m old new i s x v first item open_still answer is inc further =
    ap (λ n. delayed_behind n.output old.kept (left_of m n inc.first) further) is
    ∙ ap (λ l. delayed_behind old.flat.output old.kept l further) (lane_left m old.flat.expansion.function old.flat.expansion.stages.items old.flat.lanes old.flat.next old.flat.closed x v inc.first open_still answer)
    ∙ sym (λ j. flat_delay_comes_out m old (in_front (first j) (item j) inc) further)

-- a signal came in that is the last: nothing comes behind it but Main with this ending
pub main_comes_in : {T : Type 0} (m : Meaning T) (old : FlatMapDelayNode T) (new : FlatMapNode T) (i : ℕ) (s t : Signal T) (e : Ending) → i ≡ 0 → s ≡ t → old.flat.closed ≡ false →
    ((v : Stream T) → lanes_to_come m old.flat.expansion.function old.flat.expansion.stages.items old.flat.next (signal_then t v) ≡ main_input e) → new ≡ with_main old.flat e → TakesIn (flat_delay_comes_out m) old i s (record old { flat = new })
main_comes_in m old new i s t e first signal open_still last is inc further =
    ap (λ n. delayed_behind n.output old.kept (left_of m n inc.first) further) is
    ∙ ap (λ l. delayed_behind old.flat.output old.kept l further) (main_left m old.flat.expansion.function old.flat.expansion.stages.items old.flat.lanes old.flat.next old.flat.closed e inc.first (signal_then t inc.first) open_still (last inc.first))
    ∙ sym (λ j. flat_delay_comes_out m old (in_front (first j) (signal j) inc) further)

-- ---- the counts are those of a `flatMap`

counts_in : {T : Type 0} (old : FlatMapDelayNode T) (new : FlatMapNode T) (i : ℕ) (s : Signal T) → CountsIn IsGoing flat_ended flat_done old.flat i s new → CountsIn flat_delay_counted flat_delay_ended flat_delay_done old i s (record old { flat = new })
counts_in old new i s h = record { stays_ended = h.stays_ended; counts = h.counts; stays_done = h.stays_done; is_done = h.is_done }

pub lane_counts_in : {T : Type 0} (old : FlatMapDelayNode T) (new : FlatMapNode T) (i : ℕ) (s : Signal T) (x : T) (v : Stream T) → i ≡ 0 → s ≡ Next x → old.flat.closed ≡ false → old.flat.next < 2 ^ 64 → has_ended v.ending ≡ true → new ≡ with_lane old.flat v →
    CountsIn flat_delay_counted flat_delay_ended flat_delay_done old i s (record old { flat = new })
lane_counts_in old new i s x v first item open_still few ends is = counts_in old new i s (lane_counts old.flat new i s x v first item open_still few ends is)

pub main_counts_in : {T : Type 0} (old : FlatMapDelayNode T) (new : FlatMapNode T) (i : ℕ) (s : Signal T) (e : Ending) → i ≡ 0 → has_ended e ≡ true → new ≡ with_main old.flat e → CountsIn flat_delay_counted flat_delay_ended flat_delay_done old i s (record old { flat = new })
main_counts_in old new i s e first ends is = counts_in old new i s (main_counts old.flat new i s e first ends is)

-- ---- an item in one go

pub lane_taken_in : {T : Type 0} (m : Meaning T) (old : FlatMapDelayNode T) (new : FlatMapNode T) (i : ℕ) (x : T) (v : Stream T) → i ≡ 0 → old.flat.closed ≡ false → flat_delay_ended old ≡ false → old.flat.next < 2 ^ 64 → has_ended v.ending ≡ true →
    lane_answer m old.flat.expansion.function old.flat.expansion.stages.items x ≡ Ok v → new ≡ with_lane old.flat v →
    IsTakenIn (flat_delay_comes_out m) flat_delay_takes flat_delay_recorded flat_delay_counted flat_delay_ended flat_delay_done old i (Next x) (record old { flat = new })
lane_taken_in m old new i x v first open_still going few ends answer is = record {
  enabled = rw first refl;
  value = lane_comes_in m old new i (Next x) x v first refl open_still answer is;
  notes = rw is refl;
  counts = lane_counts_in old new i (Next x) x v first refl open_still few ends is;
  goes_on = ap flat_ended is ∙ going;
}
