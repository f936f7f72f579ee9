-- Lanes of which nothing waits, and into which nothing more comes.
use Rattle.std.proofs.Common.{◌≡◌, ℕ, suc, nat_eq, true, false, List, [], ◌∷◌, length, arith}
use Rattle.std.proofs.lemmas.Bool.Decides.{nat_tests}
use Rattle.rsx_sources.specs.Prelude.{Open, Meaning, ended_by, is_nil}
use Rattle.rsx_plain.proofs.Rests.{chain_rests}
use Rattle.rsx_values.specs.Pick.{InputLeft, rest_of}
use Rattle.rsx_grouping.proofs.Picks.{and_left, and_right}
use Rattle.rsx_grouping.specs.Lane.{is_quiet, is_quiet_of, GoesOn}
use Rattle.rsx_grouping.specs.Rows.{are_quiet, GoOn}
use Rattle.rsx_grouping.specs.Table.{lanes_there}
use Rattle.rsx_grouping.specs.declared.lane.LaneState.{LaneState}
use Rattle.rsx_grouping.specs.declared.lane.LaneState.TheVariants.{Running, Completed, Failing, Gone}
use Rattle.rsx_grouping.specs.declared.table.KeyedLane.{KeyedLane}

-- these inputs are some, and none has a signal left
pub record IsIdle {T : Type 0} (is : List (InputLeft T)) : Type 0 where
  pub none : rest_of is ≡ []
  pub some : nat_eq (length is) 0 ≡ false

one_more : {T : Type 0} (n : ℕ) (is : List (InputLeft T)) → IsIdle is → IsIdle ((n, []) ∷ is)
one_more n is h = record { none = h.none; some = grind (arith, nat_tests) }

lane_rests : {T : Type 0} (m : Meaning T) (n k : ℕ) (s : LaneState T) (xs : List T) (rows : List (KeyedLane T)) (rest : List (InputLeft T)) → is_quiet_of s (is_nil xs) ≡ true → GoesOn s → IsIdle (lanes_there m (suc n) rows (ended_by Open) rest) →
    IsIdle (lanes_there m n (record { key = k; lane = record { state = s; waiting = xs } } ∷ rows) (ended_by Open) rest)
lane_rests m n k (Running c) [] rows rest q on h = rw (chain_rests m c on) (one_more n (lanes_there m (suc n) rows (ended_by Open) rest) h)
lane_rests m n k (Running c) (x ∷ xs) rows rest q on h = cc
lane_rests m n k Completed xs rows rest q on h = cc
lane_rests m n k (Failing f) xs rows rest q on h = cc
lane_rests m n k Gone xs rows rest q on h = h

pub lanes_rest : {T : Type 0} (m : Meaning T) (n : ℕ) (rows : List (KeyedLane T)) (rest : List (InputLeft T)) → are_quiet rows ≡ true → GoOn rows → IsIdle rest → IsIdle (lanes_there m n rows (ended_by Open) rest)
lanes_rest m n [] rest q on h = h
lanes_rest m n (r ∷ rows) rest q on h =
    lane_rests m n r.key r.lane.state r.lane.waiting rows rest (and_left (is_quiet r.lane) (are_quiet rows) q) on.0
    (lanes_rest m (suc n) rows rest (and_right (is_quiet r.lane) (are_quiet rows) q) on.1 h)
