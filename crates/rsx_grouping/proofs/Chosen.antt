-- A lane is picked, or Main: the value under the choice, and the counts.
use Rattle.std.proofs.Common.{◌≡◌, ℕ, zero, suc, ◌^◌, ◌<◌, ◌≤◌, ◌&&◌, if◌then◌else◌, nat_eq, nat_lt, Bool, true, false, List, [], ◌∷◌, map, length, slice_set, slice_get, Option, Some, None, option_map, refl, ap, sym, ◌∙◌, subst, arith, inl}
use Rattle.std.specs.Prelude.{not, is_some, IfSome, IfNone}
use Rattle.std.proofs.lemmas.Bool.Decides.{nat_tests}
use Rattle.std.proofs.lemmas.Option.{same_Some}
use Rattle.rsx_sources.specs.Prelude.{Picks, Note, note_then, Cause, Done, Failed, Signal, Next, Complete, Error, Stage, Meaning, Stream, ended_by, items_then, CountsStep, ends_input, is_nil, Records, IsSteppedOut}
use Rattle.rsx_values.specs.declared.record.Run.{Run}
use Rattle.rsx_values.specs.Prelude.{InputLeft, next_of, main_input, merge_inputs, written}
use Rattle.rsx_values.specs.declared.limits.TheConstants.{MAIN, MOST_KEYS}
use Rattle.rsx_queued.proofs.Merged.{item_chosen, completion_chosen, last_chosen, failure_chosen, picks_compose}
use Rattle.rsx_queued.proofs.Outputs.{empty_is, item_leaves, not_ended}
use Rattle.rsx_queued.specs.declared.output.Output.{Output}
use Rattle.rsx_queued.specs.declared.output.Output.TheVariants.{Empty, Waiting}
use Rattle.rsx_queued.specs.Prelude.{IsFirst, merge_behind, is_empty, is_over, has_ending}
use Rattle.rsx_grouping.proofs.Picks.{lane_picked, next_behind, none_there}
use Rattle.rsx_grouping.proofs.Tables.{keys_set, picked_goes_on}
use Rattle.rsx_grouping.specs.Lane.{lane_left, state_left, is_gone, is_gone_state, is_running, completes, after_pick, can_pick_of, PickGoesOn, TakesFirst}
use Rattle.rsx_grouping.specs.Rows.{keys_of, are_gone, can_pick_at, GoOn}
use Rattle.rsx_grouping.specs.Table.{lanes_there, lanes_to_come, TakesFirstAt, CommitsAt, IsItemPickedAt}
use Rattle.rsx_grouping.specs.declared.lane.Lane.{Lane}
use Rattle.rsx_grouping.specs.declared.lane.LaneState.{LaneState}
use Rattle.rsx_grouping.specs.declared.lane.LaneState.TheVariants.{Running, Completed as LaneCompleted, Failing as LaneFailing, Gone}
use Rattle.rsx_grouping.specs.declared.lane.LanePick.{LanePick}
use Rattle.rsx_grouping.specs.declared.table.KeyedLane.{KeyedLane}
use Rattle.rsx_grouping.specs.GroupBy.{keyed_left, main_left, lanes_and_main, inputs_left, group_comes_out, group_waiting, group_recording, group_recorded, IsPoppedGroup, group_counted, group_ended, group_done, group_picks, can_pick_from, is_complete, unless_complete, after_signal}
use Rattle.rsx_grouping.specs.MainState.{is_coming, is_done, is_taken}
use Rattle.rsx_grouping.specs.declared.main_state.MainState.{MainState}
use Rattle.rsx_grouping.specs.declared.main_state.MainState.TheVariants.{Coming, Completed, Failing, Taken}
use Rattle.rsx_grouping.specs.declared.node.GroupByNode.{GroupByNode}

-- ---- a signal of one input is put out

-- what the code did before it put the signal out: the choice i took it, and left this
pub record IsChosen {T : Type 0} (m : Meaning T) (old : GroupByNode T) (i : ℕ) (s : Signal T) (mid : GroupByNode T) : Type 0 where
  pub empty : old.output ≡ Empty
  pub still_empty : mid.output ≡ Empty
  pub next : (v : Stream T) → next_of i (inputs_left m old.function old.stages.items old.table old.main v) ≡ Some (s, inputs_left m mid.function mid.stages.items mid.table mid.main v)

-- where Main and all lanes were picked to their ends, no input is left
none_left : {T : Type 0} (m : Meaning T) (f : ℕ) (gs : List (Stage T)) (rows : List (KeyedLane T)) (main : MainState) (v : Stream T) → is_complete rows main ≡ true → inputs_left m f gs rows main v ≡ []
none_left m f gs rows Coming v h = cc
none_left m f gs rows Completed v h = cc
none_left m f gs rows (Failing c) v h = cc
none_left m f gs rows Taken v h = none_there m 0 rows (ended_by Done) [] h

pub signal_out : {T : Type 0} (m : Meaning T) (old mid : GroupByNode T) (i : ℕ) (s : Signal T) → IsChosen m old i s mid → Records (group_comes_out m) old (Picks (i ∷ [])) (after_signal s mid)
signal_out m old mid i (Next x) k inc =
    item_chosen old.output (Waiting (Next x)) (inputs_left m old.function old.stages.items old.table old.main inc.first) (inputs_left m mid.function mid.stages.items mid.table mid.main inc.first) i x k.empty refl (k.next inc.first)
signal_out {T} m old mid i Complete k inc = by_complete (is_complete mid.table mid.main) refl
  where
    before : List (InputLeft T)
    before = inputs_left m old.function old.stages.items old.table old.main inc.first

    left : List (InputLeft T)
    left = inputs_left m mid.function mid.stages.items mid.table mid.main inc.first

    out : Bool → Output T
    out b = if b then Waiting Complete else mid.output

    by_complete : (b : Bool) → is_complete mid.table mid.main ≡ b → (further : Note) → group_comes_out m (unless_complete mid) inc further ≡ group_comes_out m old inc (note_then (Picks (i ∷ [])) further)
    by_complete true e further =
        ap (λ b. merge_behind (out b) left further) e ∙ last_chosen old.output (Waiting Complete) before left i k.empty refl (k.next inc.first) (none_left m mid.function mid.stages.items mid.table mid.main inc.first e) further
    by_complete false e further =
        ap (λ b. merge_behind (out b) left further) e ∙ completion_chosen old.output mid.output before left i k.empty k.still_empty (k.next inc.first) further
signal_out m old mid i (Error c) k inc =
    failure_chosen old.output (Waiting (Error c)) (inputs_left m old.function old.stages.items old.table old.main inc.first) (inputs_left m mid.function mid.stages.items mid.table mid.main inc.first)
    (inputs_left m mid.function mid.stages.items [] mid.main inc.first) i c k.empty refl (k.next inc.first)

-- ---- a lane

done_of : {T : Type 0} (m : Meaning T) (f : ℕ) (ks : List ℕ) (main : MainState) (v : Stream T) → is_done main ≡ true → keyed_left m f ks main v ≡ ended_by Done
done_of m f ks Coming v h = cc
done_of m f ks Completed v h = refl
done_of m f ks (Failing c) v h = cc
done_of m f ks Taken v h = refl

pub lane_next : {T : Type 0} (m : Meaning T) (f : ℕ) (gs : List (Stage T)) (rows : List (KeyedLane T)) (main : MainState) (i : ℕ) (r : KeyedLane T) (p : LanePick T) (v : Stream T) → slice_get rows i ≡ Some r → TakesFirstAt m rows i p → (completes r.lane ≡ true → is_done main ≡ true) →
    next_of i (inputs_left m f gs rows main v) ≡ Some (p.signal, inputs_left m f gs (slice_set rows i (record { key = r.key; lane = after_pick p.lane r.lane })) main v)
lane_next {T} m f gs rows main i r p v at takes done =
    let rows' : List (KeyedLane T) = slice_set rows i (record { key = r.key; lane = after_pick p.lane r.lane }) in
    let w : Stream (ℕ × T) = keyed_left m f (keys_of rows) main v in
    lane_picked m gs rows i r p w (main_left main w.ending) at takes (λ h. done_of m f (keys_of rows) main v (done h))
    ∙ ap (λ ks. Some (p.signal, lanes_and_main m gs rows' main (keyed_left m f ks main v))) (sym (keys_set rows i r (after_pick p.lane r.lane) at))

-- ---- Main

pub main_completed : {T : Type 0} (m : Meaning T) (f : ℕ) (gs : List (Stage T)) (rows : List (KeyedLane T)) (v : Stream T) → length rows < 2 ^ 64 → next_of MAIN (inputs_left m f gs rows Completed v) ≡ Some (Complete, inputs_left m f gs rows Taken v)
main_completed {T} m f gs rows v few = next_behind m MAIN 0 rows Complete (ended_by Done) (lanes_to_come m gs (keys_of rows) (ended_by Done) (main_input Done)) [] (omega arith) refl

pub main_failed : {T : Type 0} (m : Meaning T) (f : ℕ) (gs : List (Stage T)) (rows : List (KeyedLane T)) (c : Cause) (v : Stream T) → length rows < 2 ^ 64 →
    next_of MAIN (inputs_left m f gs rows (Failing c) v) ≡ Some (Error c, lanes_there m 0 rows (ended_by (Failed c)) [])
main_failed {T} m f gs rows c v few = next_behind m MAIN 0 rows (Error c) (ended_by (Failed c)) (lanes_to_come m gs (keys_of rows) (ended_by (Failed c)) (main_input (Failed c))) [] (omega arith) refl

-- a failure is put out
pub failure_out : {T : Type 0} (m : Meaning T) (old new : GroupByNode T) (i : ℕ) (c : Cause) → old.output ≡ Empty → new.output ≡ Waiting (Error c) → ((v : Stream T) → (js : List (InputLeft T)) × (next_of i (inputs_left m old.function old.stages.items old.table old.main v) ≡ Some (Error c, js))) →
    Records (group_comes_out m) old (Picks (i ∷ [])) new
failure_out m old new i c empty put next inc =
    failure_chosen old.output new.output (inputs_left m old.function old.stages.items old.table old.main inc.first) (next inc.first).0 (inputs_left m new.function new.stages.items new.table new.main inc.first) i c empty put (next inc.first).1

-- ---- the counts

both : (b : Bool) → b ≡ true → b ≡ false → ⊥
both b x y = cc

-- the node goes on, or it ends by this signal
goes_on : {T : Type 0} (old mid : GroupByNode T) (s : Signal T) → mid.output ≡ Empty → mid.got ≡ old.got → (length old.table ≤ MOST_KEYS → length mid.table ≤ MOST_KEYS) → (GoOn old.table → GoOn mid.table) → (ends_input s ≡ false → is_complete mid.table mid.main ≡ false) →
    group_ended (after_signal s mid) ≡ false → (taken : List ℕ) (sent : ℕ) → group_counted old taken sent → group_counted (after_signal s mid) taken sent
goes_on old mid (Next x) empty got few on left still taken sent h = record { not_over = refl; some_left = left refl; few = few h.few; goes_on = on h.goes_on; items = h.items; at = h.at; counts = got ∙ h.counts }
goes_on {T} old mid Complete empty got few on left still taken sent h = by_complete (is_complete mid.table mid.main) refl
  where
    by_complete : (b : Bool) → is_complete mid.table mid.main ≡ b → group_counted (unless_complete mid) taken sent
    by_complete true e = absurd (both (group_ended (unless_complete mid)) (rw e refl) still)
    by_complete false e = record { not_over = rw (e, empty) refl; some_left = e; few = few h.few; goes_on = on h.goes_on; items = h.items; at = h.at; counts = got ∙ h.counts }
goes_on old mid (Error c) empty got few on left still taken sent h = cc

pub signal_counts : {T : Type 0} (old mid : GroupByNode T) (s : Signal T) → old.output ≡ Empty → mid.output ≡ Empty → mid.got ≡ old.got → (length old.table ≤ MOST_KEYS → length mid.table ≤ MOST_KEYS) → (GoOn old.table → GoOn mid.table) → (ends_input s ≡ false → is_complete mid.table mid.main ≡ false) →
    (not (is_coming old.main) ≡ true → not (is_coming mid.main) ≡ true) → CountsStep group_counted group_ended group_done old (after_signal s mid)
signal_counts {T} old mid s was empty got few on left done = record {
  stays_ended = λ e. absurd (not_ended old.output was e);
  counts = goes_on old mid s empty got few on left;
  stays_done = λ j d. same_main s (done d);
}
  where
    same_main : (t : Signal T) → not (is_coming mid.main) ≡ true → not (is_coming (after_signal t mid).main) ≡ true
    same_main (Next x) h = h
    same_main Complete h = h
    same_main (Error c) h = h

-- ---- what the code knows of a lane that can be picked

first_some : {T : Type 0} (s : Signal T) (old new : Option (Stream T)) → IsFirst s old new → ends_input s ≡ false → is_some new ≡ true
first_some (Next x) old new f h = ap is_some f.2
first_some Complete old new f h = cc
first_some (Error c) old new f h = cc

some_there : {T : Type 0} (m : Meaning T) (k : ℕ) (l : Lane T) (v : Stream T) → is_some (lane_left m k l v) ≡ true → is_gone l ≡ false
some_there {T} m k l v h = by_state l.state h
  where
    by_state : (s : LaneState T) → is_some (option_map (λ w. items_then (map (m.tagged k) l.waiting) w) (state_left m k s v)) ≡ true → is_gone_state s ≡ false
    by_state (Running c) e = refl
    by_state LaneCompleted e = refl
    by_state (LaneFailing f) e = refl
    by_state Gone e = cc

not_all : (a b : Bool) → b ≡ false → a && b ≡ false
not_all true b h = h
not_all false b h = refl

one_left : {T : Type 0} (rows : List (KeyedLane T)) (i : ℕ) (r : KeyedLane T) (new : Lane T) → slice_get rows i ≡ Some r → is_gone new ≡ false → are_gone (slice_set rows i (record { key = r.key; lane = new })) ≡ false
one_left [] i r new at h = cc
one_left (q ∷ rows) zero r new at h = rw h refl
one_left (q ∷ rows) (suc i) r new at h = not_all (is_gone q.lane) (are_gone (slice_set rows i (record { key = r.key; lane = new }))) (one_left rows i r new at h)

-- behind an item the lane is still there
pub item_left : {T : Type 0} (m : Meaning T) (rows : List (KeyedLane T)) (main : MainState) (i : ℕ) (r : KeyedLane T) (p : LanePick T) → slice_get rows i ≡ Some r → TakesFirstAt m rows i p → ends_input p.signal ≡ false →
    is_complete (slice_set rows i (record { key = r.key; lane = after_pick p.lane r.lane })) main ≡ false
item_left m rows main i r p at takes h =
    let first = takes r at (ended_by Done) (λ d. refl) in
    let there : is_gone (after_pick p.lane r.lane) ≡ false = some_there m r.key (after_pick p.lane r.lane) (ended_by Done) (first_some p.signal (lane_left m r.key r.lane (ended_by Done)) (lane_left m r.key (after_pick p.lane r.lane) (ended_by Done)) first h) in
    not_all (is_taken main) (are_gone (slice_set rows i (record { key = r.key; lane = after_pick p.lane r.lane }))) (one_left rows i r (after_pick p.lane r.lane) at there)

pub length_same : {T : Type 0} (rows : List (KeyedLane T)) (i : ℕ) (q : KeyedLane T) → length rows ≤ MOST_KEYS → length (slice_set rows i q) ≤ MOST_KEYS
length_same rows i q few = rw (length_set rows i q) few
  where
    length_set : {A : Type 0} (xs : List A) (j : ℕ) (x : A) → length (slice_set xs j x) ≡ length xs
    length_set [] j x = refl
    length_set (y ∷ xs) zero x = refl
    length_set (y ∷ xs) (suc j) x = ap suc (length_set xs j x)

pub and_left : (a b : Bool) → a && b ≡ true → a ≡ true
and_left true b e = refl
and_left false b e = e

pub and_right : (a b : Bool) → a && b ≡ true → b ≡ true
and_right true b e = e
and_right false b e = cc

pub picks_empty : {T : Type 0} (n : GroupByNode T) (i asked sent : ℕ) → group_picks n i asked sent ≡ true → n.output ≡ Empty
picks_empty n i asked sent h = empty_is n.output (and_left (is_empty n.output) (can_pick_from n.table n.main i asked sent) h)

picks_at : {T : Type 0} (n : GroupByNode T) (i asked sent : ℕ) → group_picks n i asked sent ≡ true → (i ≡ MAIN → ⊥) → can_pick_at (slice_get n.table i) (is_done n.main) asked sent ≡ true
picks_at n i asked sent h e =
    let other : nat_eq i MAIN ≡ false = grind (arith, nat_tests) in
    rw other at (and_right (is_empty n.output) (can_pick_from n.table n.main i asked sent) h)

picked_within : {T : Type 0} (rows : List (KeyedLane T)) (i : ℕ) (done : Bool) (asked sent : ℕ) → can_pick_at (slice_get rows i) done asked sent ≡ true → i < length rows
picked_within [] i done asked sent h = cc
picked_within (r ∷ rows) zero done asked sent h = omega arith
picked_within (r ∷ rows) (suc i) done asked sent h = let lt = picked_within rows i done asked sent h in omega (arith, lt)

-- a lane of the table that can be picked can be picked of the node, whose slot is empty
pub lane_picks : {T : Type 0} (n : GroupByNode T) (i asked sent : ℕ) → is_empty n.output ≡ true → length n.table < 2 ^ 64 → can_pick_at (slice_get n.table i) (is_done n.main) asked sent ≡ true → group_picks n i asked sent ≡ true
lane_picks n i asked sent empty small at =
    let within = picked_within n.table i (is_done n.main) asked sent at in
    let other : nat_eq i MAIN ≡ false = grind (arith, nat_tests, within, small) in
    rw (empty, other) at

-- a lane that can be picked is there, and where the pick completes it the input is done
pub record IsPickable {T : Type 0} (n : GroupByNode T) (i : ℕ) : Type 0 where
  pub row : KeyedLane T
  pub at : slice_get n.table i ≡ Some row
  pub within : i < length n.table
  pub there : is_gone row.lane ≡ false
  pub done : completes row.lane ≡ true → is_done n.main ≡ true

pub pickable : {T : Type 0} (n : GroupByNode T) (i asked sent : ℕ) → group_picks n i asked sent ≡ true → (i ≡ MAIN → ⊥) → IsPickable n i
pickable {T} n i asked sent h e = by_row (slice_get n.table i) refl (picks_at n i asked sent h e)
  where
    within : (rows : List (KeyedLane T)) (j : ℕ) (r : KeyedLane T) → slice_get rows j ≡ Some r → j < length rows
    within [] j r at = cc
    within (q ∷ rows) zero r at = omega arith
    within (q ∷ rows) (suc j) r at = let lt = within rows j r at in omega arith

    not_gone : (s : LaneState T) (none done : Bool) → can_pick_of s none done asked sent ≡ true → is_gone_state s ≡ false
    not_gone (Running c) none done k = refl
    not_gone LaneCompleted none done k = refl
    not_gone (LaneFailing f) none done k = refl
    not_gone Gone none done k = cc

    is_last : (s : LaneState T) (none done : Bool) → can_pick_of s none done asked sent ≡ true → none && is_running s ≡ true → done ≡ true
    is_last (Running c) true done k l = and_left done (nat_lt sent asked) k
    is_last (Running c) false done k l = cc
    is_last LaneCompleted true done k l = cc
    is_last LaneCompleted false done k l = cc
    is_last (LaneFailing f) true done k l = cc
    is_last (LaneFailing f) false done k l = cc
    is_last Gone none done k l = cc

    by_row : (o : Option (KeyedLane T)) → slice_get n.table i ≡ o → can_pick_at o (is_done n.main) asked sent ≡ true → IsPickable n i
    by_row None at k = cc
    by_row (Some r) at k = record {
      row = r;
      at = at;
      within = within n.table i r at;
      there = not_gone r.lane.state (is_nil r.lane.waiting) (is_done n.main) k;
      done = is_last r.lane.state (is_nil r.lane.waiting) (is_done n.main) k;
    }

-- ---- what the picks answer

-- Main's completion was picked
pub completion_picked : {T : Type 0} (m : Meaning T) (old new : GroupByNode T) (choices : List Run) → old.output ≡ Empty → length old.table < 2 ^ 64 → old.main ≡ Completed → new ≡ after_signal Complete (record old { choices = choices; main = Taken }) →
    Records (group_comes_out m) old (Picks (MAIN ∷ [])) new
completion_picked {T} m old new choices empty few main is inc further =
    let mid : GroupByNode T = record old { choices = choices; main = Taken } in
    let k : IsChosen m old MAIN Complete mid = record {
      empty = empty;
      still_empty = empty;
      next = λ v. ap (λ s. next_of MAIN (inputs_left m old.function old.stages.items old.table s v)) main ∙ main_completed m old.function old.stages.items old.table v few;
    } in
    ap (λ z. group_comes_out m z inc further) is ∙ signal_out m old mid MAIN Complete k inc further

-- Main's failure was picked
pub failure_picked : {T : Type 0} (m : Meaning T) (old new : GroupByNode T) (choices : List Run) (c : Cause) → old.output ≡ Empty → length old.table < 2 ^ 64 → old.main ≡ Failing c → new ≡ after_signal (Error c) (record old { choices = choices }) →
    Records (group_comes_out m) old (Picks (MAIN ∷ [])) new
failure_picked {T} m old new choices c empty few main is inc further =
    failure_out m old new MAIN c empty (ap (λ (z : GroupByNode T). z.output) is)
    (λ v. (lanes_there m 0 old.table (ended_by (Failed c)) [], ap (λ s. next_of MAIN (inputs_left m old.function old.stages.items old.table s v)) main ∙ main_failed m old.function old.stages.items old.table c v few))
    inc further

-- a lane was picked
pub lane_out : {T : Type 0} (m : Meaning T) (old new : GroupByNode T) (i asked sent : ℕ) (p : LanePick T) (choices : List Run) (table : List (KeyedLane T)) → group_picks old i asked sent ≡ true → (i ≡ MAIN → ⊥) → TakesFirstAt m old.table i p → CommitsAt old.table i p.lane table →
    new ≡ after_signal p.signal (record old { choices = choices; table = table }) → Records (group_comes_out m) old (Picks (i ∷ [])) new
lane_out {T} m old new i asked sent p choices table picks other takes commits is inc further =
    let k : IsPickable old i = pickable old i asked sent picks other in
    let empty : old.output ≡ Empty = picks_empty old i asked sent picks in
    let mid : GroupByNode T = record old { choices = choices; table = table } in
    let chosen : IsChosen m old i p.signal mid = record {
      empty = empty;
      still_empty = empty;
      next = λ v. lane_next m old.function old.stages.items old.table old.main i k.row p v k.at takes k.done ∙ ap (λ rows. Some (p.signal, inputs_left m old.function old.stages.items rows old.main v)) (sym (commits k.row k.at));
    } in
    ap (λ z. group_comes_out m z inc further) is ∙ signal_out m old mid i p.signal chosen inc further

pub lane_counts : {T : Type 0} (m : Meaning T) (old new : GroupByNode T) (i asked sent : ℕ) (p : LanePick T) (choices : List Run) (table : List (KeyedLane T)) → group_picks old i asked sent ≡ true → (i ≡ MAIN → ⊥) → TakesFirstAt m old.table i p → PickGoesOn p.lane → CommitsAt old.table i p.lane table →
    new ≡ after_signal p.signal (record old { choices = choices; table = table }) → CountsStep group_counted group_ended group_done old new
lane_counts {T} m old new i asked sent p choices table picks other takes on commits is =
    let k : IsPickable old i = pickable old i asked sent picks other in
    let empty : old.output ≡ Empty = picks_empty old i asked sent picks in
    let mid : GroupByNode T = record old { choices = choices; table = table } in
    let row : KeyedLane T = record { key = k.row.key; lane = after_pick p.lane k.row.lane } in
    let set : table ≡ slice_set old.table i row = commits k.row k.at in
    let P : GroupByNode T → Type 0 = λ z. CountsStep group_counted group_ended group_done old z in
    let few : length old.table ≤ MOST_KEYS → length table ≤ MOST_KEYS = λ h. subst (λ (z : List (KeyedLane T)). length z ≤ MOST_KEYS) (sym set) (length_same old.table i row h) in
    let left : ends_input p.signal ≡ false → is_complete table old.main ≡ false = λ h. ap (λ rows. is_complete rows old.main) set ∙ item_left m old.table old.main i k.row p k.at takes h in
    subst P (sym is) (signal_counts old mid p.signal empty empty refl few (picked_goes_on old.table table i k.row p.lane k.at commits on) left (λ d. d))

pub lane_within : {T : Type 0} (n : GroupByNode T) (i asked sent : ℕ) → group_picks n i asked sent ≡ true → (i ≡ MAIN → ⊥) → i < length n.table
lane_within n i asked sent picks other = let k = pickable n i asked sent picks other in k.within

-- ---- an item of a lane is picked, and goes out at once

-- where one more may be sent
item_picks : {T : Type 0} (n : GroupByNode T) (i : ℕ) (r : KeyedLane T) (asked sent : ℕ) → is_empty n.output ≡ true → i < MAIN → slice_get n.table i ≡ Some r → is_nil r.lane.waiting ≡ false → is_gone r.lane ≡ false → sent < asked → group_picks n i asked sent ≡ true
item_picks {T} n i r asked sent empty small at waits there lt =
    let other : nat_eq i MAIN ≡ false = grind (arith, nat_tests) in
    let less : nat_lt sent asked ≡ true = grind (arith, nat_tests) in
    rw (empty, other, at, waits) (can_go r.lane.state there less)
  where
    can_go : (s : LaneState T) → is_gone_state s ≡ false → nat_lt sent asked ≡ true → can_pick_of s false (is_done n.main) asked sent ≡ true
    can_go (Running c) k l = l
    can_go LaneCompleted k l = l
    can_go (LaneFailing f) k l = l
    can_go Gone k l = cc

pub item_stepped : {T : Type 0} (m : Meaning T) (old : GroupByNode T) (table : List (KeyedLane T)) (choices : List Run) (asked sent : ℕ) (x : T) → is_empty old.output ≡ true → sent < asked → IsItemPickedAt m old.table old.choices x table choices →
    IsSteppedOut (group_comes_out m) (group_waiting m) group_picks (λ n a s. false) (λ n a s k. ⊥) IsPoppedGroup group_recording group_recorded group_counted group_ended group_done old asked sent (Some x) (record old { table = table; choices = choices })
item_stepped {T} m old table choices asked sent x empty lt p =
    let i : ℕ = p.place in
    let r : KeyedLane T = p.row in
    let pick : LanePick T = record { signal = Next x; lane = None } in
    let new : GroupByNode T = record old { table = table; choices = choices } in
    let mid : GroupByNode T = record new { output = Waiting (Next x) } in
    let left : old.output ≡ Empty = empty_is old.output empty in
    let other : i ≡ MAIN → ⊥ = λ e. below_main i p.small e in
    let picks : group_picks old i asked sent ≡ true = item_picks old i r asked sent empty p.small p.at p.item.waits p.item.there lt in
    let takes : TakesFirstAt m old.table i pick = λ q at. subst (λ (z : KeyedLane T). TakesFirst m z.key z.lane pick) (same_Some r q (sym p.at ∙ at)) p.item.first in
    let commits : CommitsAt old.table i None table = λ q at. p.left ∙ ap (λ l. slice_set old.table i (record { key = r.key; lane = l })) p.item.left ∙ ap (λ (z : KeyedLane T). slice_set old.table i (record { key = z.key; lane = after_pick None z.lane })) (same_Some r q (sym p.at ∙ at)) in (
      mid,
      inl (
        i,
        record {
          enabled = picks;
          value = lane_out m old mid i asked sent pick choices table picks other takes commits refl;
          notes = ap Picks p.choice;
          composes = picks_compose (written old.choices) (i ∷ []);
          counts = lane_counts m old mid i asked sent pick choices table picks other takes tt commits refl;
        },
      ),
      record {
        waited = refl;
        popped_out = record { out = (refl, left); function = refl; stages = refl; table = refl; main = refl; choices = refl; got = refl };
        value = λ inc further. item_leaves (Waiting (Next x)) old.output x (λ cs. merge_inputs cs (inputs_left m old.function old.stages.items table old.main inc.first)) (λ cs. merge_inputs cs []) refl left further;
        notes = refl;
        counts = (ap has_ending left, (λ taken n h. record { not_over = ap is_over left; some_left = h.some_left; few = h.few; goes_on = h.goes_on; items = h.items; at = h.at; counts = h.counts }), λ j d. d);
      },
    )
  where
    below_main : (j : ℕ) → j < MAIN → j ≡ MAIN → ⊥
    below_main j below e = omega arith

-- or nothing has changed
pub may_step : {T : Type 0} (m : Meaning T) (old : GroupByNode T) (table : List (KeyedLane T)) (choices : List Run) (asked sent : ℕ) (o : Option T) → is_empty old.output ≡ true → sent < asked →
    IfSome o (λ x. IsItemPickedAt m old.table old.choices x table choices) → IfNone o ((table ≡ old.table) × (choices ≡ old.choices)) →
    IsSteppedOut (group_comes_out m) (group_waiting m) group_picks (λ n a s. false) (λ n a s k. ⊥) IsPoppedGroup group_recording group_recorded group_counted group_ended group_done old asked sent o (record old { table = table; choices = choices })
may_step m old table choices asked sent (Some x) empty lt some none = item_stepped m old table choices asked sent x empty lt some
may_step {T} m old table choices asked sent None empty lt some none =
    ap (λ (t : List (KeyedLane T)). record old { table = t; choices = choices }) none.0 ∙ ap (λ (cs : List Run). record old { choices = cs }) none.1
