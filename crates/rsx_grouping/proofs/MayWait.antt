-- In which lanes something may wait.
use Rattle.std.proofs.Common.{◌≡◌, ℕ, zero, suc, ◌<◌, ◌≤◌, inl, inr, arith, ◌&&◌, Bool, true, false, List, [], ◌∷◌, ◌++◌, length, slice_get, slice_set, refl, ap, sym, ◌∙◌}
use Rattle.std.proofs.lemmas.Bool.{and_parts, cases_lt}
use Rattle.rsx_sources.specs.Slot.{is_nil}
use Rattle.rsx_grouping.specs.Lane.{can_pick, can_pick_of, is_quiet, is_quiet_of}
use Rattle.rsx_grouping.specs.Rows.{are_quiet, are_quiet_beside, can_pick_at, is_quiet_at}
use Rattle.rsx_grouping.specs.declared.lane.Lane.{Lane}
use Rattle.rsx_grouping.specs.declared.lane.LaneState.{LaneState}
use Rattle.rsx_grouping.specs.declared.lane.LaneState.TheVariants.{Running, Completed, Failing, Gone}
use Rattle.rsx_grouping.specs.declared.table.KeyedLane.{KeyedLane}

and_true : (a b : Bool) → b ≡ true → a && b ≡ a
and_true true b h = h
and_true false b h = refl

true_and : (a b : Bool) → a ≡ true → a && b ≡ b
true_and a b h = ap (λ z. z && b) h

-- ---- the lane at a place is another one

-- nothing waited in any
pub set_quiet : {T : Type 0} (rows : List (KeyedLane T)) (i : ℕ) (q : KeyedLane T) → are_quiet rows ≡ true → are_quiet_beside i (slice_set rows i q) ≡ true
set_quiet [] i q h = refl
set_quiet (r ∷ rows) zero q h = (and_parts (is_quiet r.lane) (are_quiet rows) h).1
set_quiet (r ∷ rows) (suc i) q h =
    let both = and_parts (is_quiet r.lane) (are_quiet rows) h in
    true_and (is_quiet r.lane) (are_quiet_beside i (slice_set rows i q)) both.0 ∙ set_quiet rows i q both.1

-- nothing waited in any but that one
pub set_beside : {T : Type 0} (rows : List (KeyedLane T)) (i : ℕ) (q : KeyedLane T) → are_quiet_beside i rows ≡ true → are_quiet_beside i (slice_set rows i q) ≡ true
set_beside [] i q h = refl
set_beside (r ∷ rows) zero q h = h
set_beside (r ∷ rows) (suc i) q h =
    let both = and_parts (is_quiet r.lane) (are_quiet_beside i rows) h in
    true_and (is_quiet r.lane) (are_quiet_beside i (slice_set rows i q)) both.0 ∙ set_beside rows i q both.1

-- one more lane stands behind the others, in which nothing waits
pub more_quiet : {T : Type 0} (rows : List (KeyedLane T)) (q : KeyedLane T) → are_quiet rows ≡ true → are_quiet_beside (length rows) (rows ++ q ∷ []) ≡ true
more_quiet [] q h = refl
more_quiet (r ∷ rows) q h =
    let both = and_parts (is_quiet r.lane) (are_quiet rows) h in
    true_and (is_quiet r.lane) (are_quiet_beside (length rows) (rows ++ q ∷ [])) both.0 ∙ more_quiet rows q both.1

-- ---- only the lane at a place is looked at

pub quiet_there : {T : Type 0} (rows : List (KeyedLane T)) (i : ℕ) → are_quiet_beside i rows ≡ true → is_quiet_at (slice_get rows i) ≡ are_quiet rows
quiet_there [] i h = refl
quiet_there (q ∷ rows) zero h = sym (and_true (is_quiet q.lane) (are_quiet rows) h)
quiet_there (q ∷ rows) (suc i) h =
    let both = and_parts (is_quiet q.lane) (are_quiet_beside i rows) h in
    quiet_there rows i both.1 ∙ sym (true_and (is_quiet q.lane) (are_quiet rows) both.0)

-- ---- what can be picked while the input goes on

quiet_state : {T : Type 0} (s : LaneState T) (none : Bool) (asked sent : ℕ) → is_quiet_of s none ≡ true → can_pick_of s none false asked sent ≡ false
quiet_state (Running c) none asked sent h = rw h refl
quiet_state Completed none asked sent h = cc
quiet_state (Failing f) none asked sent h = cc
quiet_state Gone none asked sent h = refl

quiet_lane : {T : Type 0} (l : Lane T) (asked sent : ℕ) → is_quiet l ≡ true → can_pick l false asked sent ≡ false
quiet_lane l asked sent h = quiet_state l.state (is_nil l.waiting) asked sent h

pub none_picked : {T : Type 0} (rows : List (KeyedLane T)) (asked sent : ℕ) → are_quiet rows ≡ true → (i : ℕ) → can_pick_at (slice_get rows i) false asked sent ≡ false
none_picked [] asked sent h i = refl
none_picked (r ∷ rows) asked sent h zero = quiet_lane r.lane asked sent (and_parts (is_quiet r.lane) (are_quiet rows) h).0
none_picked (r ∷ rows) asked sent h (suc i) = none_picked rows asked sent (and_parts (is_quiet r.lane) (are_quiet rows) h).1 i

pub none_beside : {T : Type 0} (rows : List (KeyedLane T)) (k asked sent : ℕ) → are_quiet_beside k rows ≡ true → can_pick_at (slice_get rows k) false asked sent ≡ false → (i : ℕ) → can_pick_at (slice_get rows i) false asked sent ≡ false
none_beside [] k asked sent h here i = refl
none_beside (r ∷ rows) zero asked sent h here zero = here
none_beside (r ∷ rows) zero asked sent h here (suc i) = none_picked rows asked sent h i
none_beside (r ∷ rows) (suc k) asked sent h here zero = quiet_lane r.lane asked sent (and_parts (is_quiet r.lane) (are_quiet_beside k rows) h).0
none_beside (r ∷ rows) (suc k) asked sent h here (suc i) = none_beside rows k asked sent (and_parts (is_quiet r.lane) (are_quiet_beside k rows) h).1 here i

-- where none of the first can be picked, and there are no more
pub none_left : {T : Type 0} (rows : List (KeyedLane T)) (n : ℕ) (done : Bool) (asked sent : ℕ) → ((i : ℕ) → i < n → can_pick_at (slice_get rows i) done asked sent ≡ false) → length rows ≤ n → (i : ℕ) → can_pick_at (slice_get rows i) done asked sent ≡ false
none_left rows n done asked sent none all i = elim (cases_lt i n) [ inl low ↦ none i low | inr high ↦ behind rows i (omega (arith, all, high)) ]
  where
    behind : {T : Type 0} (ls : List (KeyedLane T)) (j : ℕ) → length ls ≤ j → can_pick_at (slice_get ls j) done asked sent ≡ false
    behind [] j le = refl
    behind (r ∷ ls) zero le = absurd (omega (arith, le))
    behind (r ∷ ls) (suc j) le = behind ls j (omega (arith, le))
