-- The laws of a `groupBy`.
use Rattle.std.specs.Prelude.{◌≡◌, ℕ, suc, zero, ◌<◌, ◌≤◌, ◌^◌, min, Bool, true, false, ◌||◌, not, nat_lt, nat_eq, List, [], ◌∷◌, ◌++◌, length, slice_get, Some, None, refl}
use Rattle.std.proofs.Common.{inl, inr, ap, subst, arith}
use Rattle.std.proofs.lemmas.Bool.Decides.{nat_tests}
use Rattle.rsx_demand.specs.Demand.{saturating_total}
use Rattle.rsx_demand.specs.declared.TheConstants.{UNBOUNDED}
use Rattle.rsx_sources.specs.Prelude.{Note, Signal, Stage, Meaning, unchosen, Stream, AreWithin, CanStep, IsHungry, ends_input, Incoming, incoming_of, is_nil}
use Rattle.rsx_values.specs.declared.limits.TheConstants.{MAIN, MOST_KEYS}
use Rattle.rsx_queued.specs.Prelude.{offers_ending, ending_there, empty_of, settled, merge_behind, merge_cut_off}
use Rattle.rsx_grouping.specs.Lane.{is_quiet, is_quiet_of, is_gone, is_gone_state, can_pick, can_pick_of}
use Rattle.rsx_grouping.specs.Rows.{are_quiet, are_gone, can_pick_at}
use Rattle.rsx_grouping.specs.declared.lane.LaneState.{LaneState}
use Rattle.rsx_grouping.specs.declared.lane.LaneState.TheVariants.{Running, Completed as LaneCompleted, Failing as LaneFailing, Gone}
use Rattle.rsx_grouping.specs.declared.table.KeyedLane.{KeyedLane}
use Rattle.rsx_grouping.specs.GroupBy.{group_comes_out, group_waiting, group_takes, group_picks, group_ended, group_done, group_counted, group_wanted, group_recorded, inputs_left}
use Rattle.rsx_grouping.specs.MainState.{is_coming, is_done, is_ready}
use Rattle.rsx_grouping.specs.declared.main_state.MainState.{MainState}
use Rattle.rsx_grouping.specs.declared.main_state.MainState.TheVariants.{Coming, Completed, Failing, Taken}
use Rattle.rsx_grouping.specs.declared.node.GroupByNode.{GroupByNode}

-- ---- once it has ended, what comes in doesn't matter

pub group_drops : {T : Type 0} (m : Meaning T) (n : GroupByNode T) (inc other : Incoming T) (further : Note) → group_ended n ≡ true → group_comes_out m n inc further ≡ group_comes_out m n other further
group_drops m n inc other further e =
    merge_cut_off n.output (inputs_left m n.function n.stages.items n.table n.main inc.first) (inputs_left m n.function n.stages.items n.table n.main other.first) further e

pub group_ends : {T : Type 0} (m : Meaning T) (n : GroupByNode T) (s : Signal T) (inc other : Incoming T) (further : Note) → group_waiting m n ≡ Some s → ends_input s ≡ true → group_comes_out m n inc further ≡ group_comes_out m n other further
group_ends m n s inc other further w e = group_drops m n inc other further (offers_ending n.output s w e)

-- ---- nor once the ending came in

pub done_left : {T : Type 0} (m : Meaning T) (f : ℕ) (gs : List (Stage T)) (rows : List (KeyedLane T)) (main : MainState) (v w : Stream T) → not (is_coming main) ≡ true → inputs_left m f gs rows main v ≡ inputs_left m f gs rows main w
done_left m f gs rows Coming v w d = cc
done_left m f gs rows Completed v w d = refl
done_left m f gs rows (Failing c) v w d = refl
done_left m f gs rows Taken v w d = refl

pub group_done_drops : {T : Type 0} (m : Meaning T) (n : GroupByNode T) (hubs before after : List (Stream T)) (v w : Stream T) (further : Note) → group_done n (length before) ≡ true →
    group_comes_out m n (incoming_of hubs (before ++ v ∷ after)) further ≡ group_comes_out m n (incoming_of hubs (before ++ w ∷ after)) further
group_done_drops m n hubs before after v w further d =
    ap (λ is. merge_behind n.output is further) (done_left m n.function n.stages.items n.table n.main (incoming_of hubs (before ++ v ∷ after)).first (incoming_of hubs (before ++ w ∷ after)).first d)

-- ---- where nothing more is chosen, something comes out

pub group_settles : {T : Type 0} (m : Meaning T) (n : GroupByNode T) (inc : Incoming T) → (v : Stream T) × (group_comes_out m n inc (unchosen (group_recorded n)) ≡ Some v)
group_settles m n inc = settled n.output _ _

-- ---- it isn't stuck

pub group_ending_waits : {T : Type 0} (m : Meaning T) (n : GroupByNode T) (asked sent : ℕ) → group_ended n ≡ true → group_waiting m n ≡ None → sent < asked → CanStep group_picks (λ k a s. false) n asked sent
group_ending_waits m n asked sent e none more = absurd (ending_there n.output e none)

less : (sent asked : ℕ) → sent < asked → nat_lt sent asked ≡ true
less sent asked h = grind (arith, nat_tests)

or_true : (a : Bool) → (a || true) ≡ true
or_true true = refl
or_true false = refl

-- a lane of which something waits can be picked
waits_in : {T : Type 0} (s : LaneState T) (none done : Bool) (asked sent : ℕ) → is_quiet_of s none ≡ false → nat_lt sent asked ≡ true → can_pick_of s none done asked sent ≡ true
waits_in (Running c) true done asked sent q lt = cc
waits_in (Running c) false done asked sent q lt = lt
waits_in LaneCompleted none done asked sent q lt = rw lt (or_true none)
waits_in (LaneFailing f) none done asked sent q lt = rw lt (or_true none)
waits_in Gone none done asked sent q lt = cc

-- where the input is done a lane whose ending was not picked can be picked
left_in : {T : Type 0} (s : LaneState T) (none : Bool) (asked sent : ℕ) → is_gone_state s ≡ false → nat_lt sent asked ≡ true → can_pick_of s none true asked sent ≡ true
left_in (Running c) true asked sent g lt = lt
left_in (Running c) false asked sent g lt = lt
left_in LaneCompleted none asked sent g lt = rw lt (or_true none)
left_in (LaneFailing f) none asked sent g lt = rw lt (or_true none)
left_in Gone none asked sent g lt = cc

-- a lane that can be picked
record CanPick {T : Type 0} (rows : List (KeyedLane T)) (done : Bool) (asked sent : ℕ) : Type 0 where
  i : ℕ
  within : i < length rows
  can : can_pick_at (slice_get rows i) done asked sent ≡ true

first_can : {T : Type 0} (r : KeyedLane T) (rows : List (KeyedLane T)) (done : Bool) (asked sent : ℕ) → can_pick r.lane done asked sent ≡ true → CanPick (r ∷ rows) done asked sent
first_can r rows done asked sent h = record { i = zero; within = omega arith; can = h }

later_can : {T : Type 0} (r : KeyedLane T) (rows : List (KeyedLane T)) (done : Bool) (asked sent : ℕ) → CanPick rows done asked sent → CanPick (r ∷ rows) done asked sent
later_can r rows done asked sent p = record { i = suc p.i; within = (let lt = p.within in omega arith); can = p.can }

some_waits : {T : Type 0} (rows : List (KeyedLane T)) (done : Bool) (asked sent : ℕ) → are_quiet rows ≡ false → nat_lt sent asked ≡ true → CanPick rows done asked sent
some_waits [] done asked sent q lt = cc
some_waits {T} (r ∷ rows) done asked sent q lt = by_first (is_quiet r.lane) refl (λ h. some_waits rows done asked sent h lt)
  where
    by_first : (b : Bool) → is_quiet r.lane ≡ b → (are_quiet rows ≡ false → CanPick rows done asked sent) → CanPick (r ∷ rows) done asked sent
    by_first true e behind = later_can r rows done asked sent (behind (rw e at q))
    by_first false e behind = first_can r rows done asked sent (waits_in r.lane.state (is_nil r.lane.waiting) done asked sent e lt)

some_left : {T : Type 0} (rows : List (KeyedLane T)) (asked sent : ℕ) → are_gone rows ≡ false → nat_lt sent asked ≡ true → CanPick rows true asked sent
some_left [] asked sent g lt = cc
some_left {T} (r ∷ rows) asked sent g lt = by_first (is_gone r.lane) refl (λ h. some_left rows asked sent h lt)
  where
    by_first : (b : Bool) → is_gone r.lane ≡ b → (are_gone rows ≡ false → CanPick rows true asked sent) → CanPick (r ∷ rows) true asked sent
    by_first true e behind = later_can r rows true asked sent (behind (rw e at g))
    by_first false e behind = first_can r rows true asked sent (left_in r.lane.state (is_nil r.lane.waiting) asked sent e lt)

below_main : (i n : ℕ) → i < n → n ≤ MOST_KEYS → nat_eq i MAIN ≡ false
below_main i n lt few = grind (arith, nat_tests)

-- a lane can be picked, or Main, or one item more than it got is wanted
pub group_hungry : {T : Type 0} (m : Meaning T) (n : GroupByNode T) (taken : List ℕ) (asked sent : ℕ) → group_ended n ≡ false → group_counted n taken sent → group_waiting m n ≡ None → sent < asked → AreWithin taken →
    IsHungry (λ k i f. group_takes k i) group_picks (λ k a s. false) group_done group_wanted (λ k. None) n taken asked sent
group_hungry {T} m n taken asked sent still counted none more within = by_main n.main refl
  where
    Result : Type 0
    Result = IsHungry (λ k i f. group_takes k i) group_picks (λ k a s. false) group_done group_wanted (λ k. None) n taken asked sent

    picks_main : is_ready n.main ≡ true → group_picks n MAIN asked sent ≡ true
    picks_main h = rw (empty_of n.output none counted.not_over, h) refl

    picks_lane : (done : Bool) → is_done n.main ≡ done → CanPick n.table done asked sent → Result
    picks_lane done e p =
        let few : length n.table ≤ MOST_KEYS = counted.few in
        let lt : p.i < length n.table = p.within in
        let low : p.i < 2 ^ 64 = omega arith in
        let other : nat_eq p.i MAIN ≡ false = below_main p.i (length n.table) lt few in
        inl (p.i, low, rw (empty_of n.output none counted.not_over, other, e) p.can)

    wants_more : is_coming n.main ≡ true → are_quiet n.table ≡ true → Result
    wants_more coming quiet =
        let low : AreWithin (counted.items ∷ []) = subst AreWithin counted.at within in
        let few : counted.items < UNBOUNDED = low.0 in
        let got : n.got ≡ min UNBOUNDED counted.items = counted.counts in
        let lacks : counted.items < saturating_total n.got 1 = omega (arith, got, few) in
        inr (inr (inl (record {
          i = 0;
          c = counted.items;
          at = ap (λ l. slice_get l 0) counted.at;
          open_still = rw coming refl;
          takes_any = λ f. rw (empty_of n.output none counted.not_over, quiet) refl;
          wants = rw (less sent asked more, quiet) lacks;
        })))

    by_quiet : is_coming n.main ≡ true → (b : Bool) → are_quiet n.table ≡ b → Result
    by_quiet coming true e = wants_more coming e
    by_quiet coming false e = picks_lane (is_done n.main) refl (some_waits n.table (is_done n.main) asked sent e (less sent asked more))

    by_main : (s : MainState) → n.main ≡ s → Result
    by_main Coming e = by_quiet (ap is_coming e) (are_quiet n.table) refl
    by_main Completed e = let low : MAIN < 2 ^ 64 = omega arith in inl (MAIN, low, picks_main (ap is_ready e))
    by_main (Failing c) e = let low : MAIN < 2 ^ 64 = omega arith in inl (MAIN, low, picks_main (ap is_ready e))
    by_main Taken e = picks_lane true (ap is_done e) (some_left n.table asked sent (rw e at counted.some_left) (less sent asked more))
