-- A lane is picked, or Main behind the lanes.
use Rattle.std.proofs.Common.{◌≡◌, ℕ, zero, suc, ◌+◌, ◌<◌, ◌≤◌, ◌&&◌, nat_eq, Bool, true, false, List, [], ◌∷◌, length, slice_set, slice_get, Some, None, refl, ap, sym, ◌∙◌, subst, arith}
use Rattle.std.proofs.lemmas.Bool.Decides.{nat_tests}
use Rattle.std.proofs.lemmas.Option.{same_Some}
use Rattle.rsx_sources.specs.Prelude.{Signal, Stage, Meaning, Stream, ended_by, Done}
use Rattle.rsx_values.specs.Prelude.{InputLeft, next_of, of_key}
use Rattle.rsx_queued.proofs.Picks.{next_first, next_beside, unequal}
use Rattle.rsx_queued.specs.Prelude.{IsFirst, here}
use Rattle.rsx_grouping.proofs.Tables.{keys_set}
use Rattle.rsx_grouping.specs.Lane.{lane_left, state_left, is_gone, is_gone_state, completes, after_pick}
use Rattle.rsx_grouping.specs.Rows.{keys_of, are_gone}
use Rattle.rsx_grouping.specs.Table.{lanes_there, lanes_to_come, lanes_left, TakesFirstAt}
use Rattle.rsx_grouping.specs.declared.lane.Lane.{Lane}
use Rattle.rsx_grouping.specs.declared.lane.LaneState.{LaneState}
use Rattle.rsx_grouping.specs.declared.lane.LaneState.TheVariants.{Running, Completed, Failing, Gone}
use Rattle.rsx_grouping.specs.declared.lane.LanePick.{LanePick}
use Rattle.rsx_grouping.specs.declared.table.KeyedLane.{KeyedLane}

next_there : {T : Type 0} (m : Meaning T) (c n i : ℕ) (rows : List (KeyedLane T)) (r : KeyedLane T) (new : Lane T) (s : Signal T) (w : Stream (ℕ × T)) (rest : List (InputLeft T)) → c ≡ n + i → slice_get rows i ≡ Some r →
    IsFirst s (lane_left m r.key r.lane (of_key r.key w)) (lane_left m r.key new (of_key r.key w)) →
    next_of c (lanes_there m n rows w rest) ≡ Some (s, lanes_there m n (slice_set rows i (record { key = r.key; lane = new })) w rest)
next_there m c n i [] r new s w rest e at first = cc
next_there {T} m c n zero (q ∷ rows) r new s w rest e at first =
    let same : c ≡ n = omega arith in
    let is : q ≡ r = same_Some q r at in
    let behind : List (InputLeft T) = lanes_there m (suc n) rows w rest in
    let P : KeyedLane T → Type 0 = λ z. next_of n (here n (lane_left m z.key z.lane (of_key z.key w)) behind) ≡ Some (s, here n (lane_left m r.key new (of_key r.key w)) behind) in
    let Q : ℕ → Type 0 = λ d. next_of d (here n (lane_left m q.key q.lane (of_key q.key w)) behind) ≡ Some (s, here n (lane_left m r.key new (of_key r.key w)) behind) in
    subst Q (sym same) (subst P (sym is) (next_first n (lane_left m r.key r.lane (of_key r.key w)) (lane_left m r.key new (of_key r.key w)) behind s first))
next_there m c n (suc i) (q ∷ rows) r new s w rest e at first =
    next_beside c n (lane_left m q.key q.lane (of_key q.key w)) (lanes_there m (suc n) rows w rest) (lanes_there m (suc n) (slice_set rows i (record { key = r.key; lane = new })) w rest) s (unequal c n i e)
    (next_there m c (suc n) i rows r new s w rest (omega arith) at first)

-- the pick takes the next signal of the lane at its place, where the input is done if it completes the lane
pub lane_picked : {T : Type 0} (m : Meaning T) (gs : List (Stage T)) (rows : List (KeyedLane T)) (i : ℕ) (r : KeyedLane T) (p : LanePick T) (w : Stream (ℕ × T)) (rest : List (InputLeft T)) → slice_get rows i ≡ Some r → TakesFirstAt m rows i p →
    (completes r.lane ≡ true → w ≡ ended_by Done) →
    next_of i (lanes_left m gs rows w rest) ≡ Some (p.signal, lanes_left m gs (slice_set rows i (record { key = r.key; lane = after_pick p.lane r.lane })) w rest)
lane_picked {T} m gs rows i r p w rest at takes done =
    let new : Lane T = after_pick p.lane r.lane in
    let first : IsFirst p.signal (lane_left m r.key r.lane (of_key r.key w)) (lane_left m r.key new (of_key r.key w)) = takes r at (of_key r.key w) (λ h. ap (of_key r.key) (done h)) in
    let place : i ≡ 0 + i = omega arith in
    next_there m i 0 i rows r new p.signal w (lanes_to_come m gs (keys_of rows) w rest) place at first
    ∙ ap (λ ks. Some (p.signal, lanes_there m 0 (slice_set rows i (record { key = r.key; lane = new })) w (lanes_to_come m gs ks w rest))) (sym (keys_set rows i r new at))

-- an input behind the lanes
pub next_behind : {T : Type 0} (m : Meaning T) (c n : ℕ) (rows : List (KeyedLane T)) (s : Signal T) (w : Stream (ℕ × T)) (rest left : List (InputLeft T)) → n + length rows ≤ c → next_of c rest ≡ Some (s, left) →
    next_of c (lanes_there m n rows w rest) ≡ Some (s, lanes_there m n rows w left)
next_behind m c n [] s w rest left few h = h
next_behind m c n (q ∷ rows) s w rest left few h =
    next_beside c n (lane_left m q.key q.lane (of_key q.key w)) (lanes_there m (suc n) rows w rest) (lanes_there m (suc n) rows w left) s (above c n (omega arith)) (next_behind m c (suc n) rows s w rest left (omega arith) h)
  where
    above : (a b : ℕ) → b < a → nat_eq a b ≡ false
    above a b lt = grind (arith, nat_tests)

-- ---- the endings of all were picked

gone_left : {T : Type 0} (m : Meaning T) (k : ℕ) (s : LaneState T) (v : Stream T) → is_gone_state s ≡ true → state_left m k s v ≡ None
gone_left m k (Running c) v h = cc
gone_left m k Completed v h = cc
gone_left m k (Failing f) v h = cc
gone_left m k Gone v h = refl

pub and_left : (a b : Bool) → a && b ≡ true → a ≡ true
and_left true b e = refl
and_left false b e = e

pub and_right : (a b : Bool) → a && b ≡ true → b ≡ true
and_right true b e = e
and_right false b e = cc

pub none_there : {T : Type 0} (m : Meaning T) (n : ℕ) (rows : List (KeyedLane T)) (w : Stream (ℕ × T)) (rest : List (InputLeft T)) → are_gone rows ≡ true → lanes_there m n rows w rest ≡ rest
none_there m n [] w rest h = refl
none_there m n (r ∷ rows) w rest h =
    let gone : lane_left m r.key r.lane (of_key r.key w) ≡ None = rw (gone_left m r.key r.lane.state (of_key r.key w) (and_left (is_gone r.lane) (are_gone rows) h)) refl in
    ap (λ o. here n o (lanes_there m (suc n) rows w rest)) gone ∙ none_there m (suc n) rows w rest (and_right (is_gone r.lane) (are_gone rows) h)
