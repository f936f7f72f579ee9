-- The last run with many choices more.
use Rattle.std.proofs.Common.{◌≡◌, ℕ, zero, suc, ◌+◌, ◌-◌, ◌<◌, ◌≤◌, ◌^◌, ◌==◌, Bool, true, false, if◌then◌else◌, slice_get, Some, None, List, [], ◌∷◌, ◌++◌, length, slice_index_or, slice_set, refl, ap, sym, ◌∙◌, subst, arith, append_assoc}
use Rattle.std.proofs.lemmas.List.{append-nil}
use Rattle.std.proofs.lemmas.Option.{same_Some}
use Rattle.std.proofs.lemmas.Bool.{eqb-true}
use Rattle.rsx_values.specs.declared.record.Run.{Run}
use Rattle.rsx_values.specs.Record.{times, written, IsRuns, IsApart, room_of_last, added_to_last}

-- ---- how many fit

last_get : (q p : Run) (rs : List Run) → slice_get (q ∷ p ∷ rs) (length (q ∷ p ∷ rs) - 1) ≡ slice_get (p ∷ rs) (length (p ∷ rs) - 1)
last_get q p rs =
    let n : length (q ∷ p ∷ rs) - 1 ≡ suc (length (p ∷ rs) - 1) = omega arith in
    ap (slice_get (q ∷ p ∷ rs)) n

pub room_end : (rs : List Run) (i : ℕ) (r : Run) → Some r ≡ slice_get rs (length rs - 1) → room_of_last rs i ≡ (if r.input == i then 2 ^ 64 - 1 - r.count else 0)
room_end [] i r s = cc
room_end (q ∷ []) i r s = ap (λ (z : Run). if z.input == i then 2 ^ 64 - 1 - z.count else 0) (sym (same_Some r q s))
room_end (q ∷ p ∷ rs) i r s = room_end (p ∷ rs) i r (s ∙ last_get q p rs)

pub room_none : (rs : List Run) (i : ℕ) → None ≡ slice_get rs (length rs - 1) → room_of_last rs i ≡ 0
room_none [] i s = refl
room_none (q ∷ rs) i s = absurd (there (q ∷ rs) (length (q ∷ rs) - 1) (omega arith) (sym s))
  where
    there : (rs : List Run) (k : ℕ) → k < length rs → slice_get rs k ≡ None → ⊥
    there [] k lt e = omega arith
    there (q ∷ rs) zero lt e = cc
    there (q ∷ rs) (suc k) lt e = there rs k (omega arith) e

pub room_there : (rs : List Run) (i : ℕ) → 0 < room_of_last rs i → 0 < length rs
room_there [] i h = absurd (omega (arith, h))
room_there (q ∷ rs) i h = omega arith

-- ---- the run at the end

room_by : (same : Bool) (c k : ℕ) → 0 < k → k ≤ (if same then 2 ^ 64 - 1 - c else 0) → (same ≡ true) × (c + k < 2 ^ 64)
room_by true c k some le = (refl, omega (arith, some, le))
room_by false c k some le = absurd (omega (arith, some, le))

at_last : (rs : List Run) (at i k : ℕ) (r : Run) → at + 1 ≡ length rs → r ≡ slice_index_or rs at r → 0 < k → k ≤ room_of_last rs i → (r.input ≡ i) × (r.count + k < 2 ^ 64)
at_last [] at i k r e was some le = absurd (omega (arith, e))
at_last (q ∷ []) zero i k r e was some le =
    let P : Run → Type 0 = λ z. (z.input ≡ i) × (z.count + k < 2 ^ 64) in
    let fits = room_by (q.input == i) q.count k some le in
    subst P (sym was) (eqb-true q.input i fits.0, fits.1)
at_last (q ∷ []) (suc at) i k r e was some le = absurd (omega (arith, e))
at_last (q ∷ p ∷ rs) zero i k r e was some le = absurd (omega (arith, e))
at_last (q ∷ p ∷ rs) (suc at) i k r e was some le = at_last (p ∷ rs) at i k r (omega (arith, e)) was some le

pub fits_last : (rs : List Run) (at i k : ℕ) (r : Run) → at ≡ length rs - 1 → r ≡ slice_index_or rs at r → 0 < k → k ≤ room_of_last rs i → r.count + k < 2 ^ 64
fits_last rs at i k r e was some le =
    let there = room_there rs i (omega (arith, some, le)) in
    (at_last rs at i k r (omega (arith, e, there)) was some le).1

-- ---- with many more

set_at : (rs : List Run) (at k : ℕ) (r : Run) → at + 1 ≡ length rs → r ≡ slice_index_or rs at r → slice_set rs at (record { input = r.input; count = r.count + k }) ≡ added_to_last rs k
set_at [] at k r e was = absurd (omega (arith, e))
set_at (q ∷ []) zero k r e was = ap (λ (z : Run). record { input = z.input; count = z.count + k } ∷ []) was
set_at (q ∷ []) (suc at) k r e was = absurd (omega (arith, e))
set_at (q ∷ p ∷ rs) zero k r e was = absurd (omega (arith, e))
set_at (q ∷ p ∷ rs) (suc at) k r e was = ap (λ l. q ∷ l) (set_at (p ∷ rs) at k r (omega (arith, e)) was)

pub set_last : (rs : List Run) (at i k : ℕ) (r : Run) → at ≡ length rs - 1 → r ≡ slice_index_or rs at r → 0 < k → k ≤ room_of_last rs i → slice_set rs at (record { input = r.input; count = r.count + k }) ≡ added_to_last rs k
set_last rs at i k r e was some le = let there = room_there rs i (omega (arith, some, le)) in set_at rs at k r (omega (arith, e, there)) was

pub added_none : (rs : List Run) → added_to_last rs 0 ≡ rs
added_none [] = refl
added_none (r ∷ []) =
    let f : ℕ → List Run = λ c. record { input = r.input; count = c } ∷ [] in
    let same : r.count + 0 ≡ r.count = omega arith in
    ap f same
added_none (r ∷ q ∷ rs) = ap (λ l. r ∷ l) (added_none (q ∷ rs))

more_apart : (r : Run) (q : Run) (rs : List Run) (k : ℕ) → IsApart r (q ∷ rs) → IsApart r (added_to_last (q ∷ rs) k)
more_apart r q [] k h = h
more_apart r q (p ∷ rs) k h = h

pub added_still_runs : (rs : List Run) (k : ℕ) → IsRuns rs → IsRuns (added_to_last rs k)
added_still_runs [] k h = tt
added_still_runs (r ∷ []) k h = let some = h.0 in (omega (arith, some), tt, tt)
added_still_runs (r ∷ q ∷ rs) k h = (h.0, more_apart r q rs k h.1, added_still_runs (q ∷ rs) k h.2)

times_more : (n k i : ℕ) → times (n + k) i ≡ times n i ++ times k i
times_more zero k i = let none : 0 + k ≡ k = omega arith in ap (λ j. times j i) none
times_more (suc n) k i = let one : suc n + k ≡ suc (n + k) = omega arith in ap (λ j. times j i) one ∙ ap (λ l. i ∷ l) (times_more n k i)

written_times : (rs : List Run) (i k : ℕ) → 0 < k → k ≤ room_of_last rs i → written (added_to_last rs k) ≡ written rs ++ times k i
written_times [] i k some le = absurd (omega (arith, some, le))
written_times (r ∷ []) i k some le =
    let same : r.input ≡ i = eqb-true r.input i (room_by (r.input == i) r.count k some le).0 in
    append-nil (times (r.count + k) r.input) ∙ times_more r.count k r.input ∙ ap (λ l. l ++ times k r.input) (sym (append-nil (times r.count r.input))) ∙ ap (λ j. written (r ∷ []) ++ times k j) same
written_times (r ∷ q ∷ rs) i k some le = ap (λ l. times r.count r.input ++ l) (written_times (q ∷ rs) i k some le) ∙ sym (append_assoc (times r.count r.input) (written (q ∷ rs)) (times k i))

pub written_added : (rs : List Run) (i k : ℕ) → k ≤ room_of_last rs i → written (added_to_last rs k) ≡ written rs ++ times k i
written_added rs i zero le = ap written (added_none rs) ∙ sym (append-nil (written rs))
written_added rs i (suc k) le = written_times rs i (suc k) (omega arith) le

-- one of them after another
pub room_after : (rs : List Run) (i k : ℕ) → suc k ≤ room_of_last rs i → k ≤ room_of_last (added_to_last rs 1) i
room_after [] i k le = absurd (omega (arith, le))
room_after (r ∷ []) i k le = by (r.input == i) le
  where
    by : (same : Bool) → suc k ≤ (if same then 2 ^ 64 - 1 - r.count else 0) → k ≤ (if same then 2 ^ 64 - 1 - (r.count + 1) else 0)
    by true h = omega (arith, h)
    by false h = absurd (omega (arith, h))
room_after (r ∷ q ∷ []) i k le = room_after (q ∷ []) i k le
room_after (r ∷ q ∷ p ∷ rs) i k le = room_after (q ∷ p ∷ rs) i k le

pub added_twice : (rs : List Run) (k : ℕ) → added_to_last (added_to_last rs 1) k ≡ added_to_last rs (suc k)
added_twice [] k = refl
added_twice (r ∷ []) k =
    let f : ℕ → List Run = λ c. record { input = r.input; count = c } ∷ [] in
    let same : r.count + 1 + k ≡ r.count + suc k = omega arith in
    ap f same
added_twice (r ∷ q ∷ []) k = ap (λ l. r ∷ l) (added_twice (q ∷ []) k)
added_twice (r ∷ q ∷ p ∷ rs) k = ap (λ l. r ∷ l) (added_twice (q ∷ p ∷ rs) k)

-- what the code of `room_of_last` rests on
pub ruleset last_room = (room_end, room_none)
