-- Runs with one choice more, and the choices of runs one by one.
use Rattle.std.proofs.Common.{◌≡◌, ℕ, zero, suc, ◌+◌, ◌-◌, ◌<◌, ◌≤◌, ◌^◌, ◌&&◌, ◌==◌, nat_lt, nat_eq, true, false, slice_get, Some, None, List, [], ◌∷◌, ◌++◌, length, slice_index_or, slice_set, take, refl, ap, sym, ◌∙◌, arith, add-one, append_assoc}
use Rattle.std.proofs.lemmas.List.{append-nil}
use Rattle.std.proofs.lemmas.Option.{same_Some}
use Rattle.std.proofs.lemmas.Bool.Decides.{nat_tests}
use Rattle.std.proofs.lemmas.Bool.{eq-eqb, ne_eqb}
use Rattle.rsx_values.specs.declared.record.Run.{Run}
use Rattle.rsx_values.specs.Record.{times, written, IsRuns, joins_last}

one_more : (n i : ℕ) → times (suc n) i ≡ times n i ++ i ∷ []
one_more zero i = refl
one_more (suc n) i = ap (λ l. i ∷ l) (one_more n i)

written_more : (rs : List Run) (r : Run) → written (rs ++ r ∷ []) ≡ written rs ++ times r.count r.input
written_more [] r = append-nil (times r.count r.input)
written_more (q ∷ rs) r = ap (λ l. times q.count q.input ++ l) (written_more rs r) ∙ sym (append_assoc (times q.count q.input) (written rs) (times r.count r.input))

-- a run of one
pub added : (rs : List Run) (i : ℕ) → written (rs ++ record { input = i; count = 1 } ∷ []) ≡ written rs ++ i ∷ []
added rs i = written_more rs (record { input = i; count = 1 })

-- the last run with one choice more
raised : (rs : List Run) (k i n : ℕ) (r : Run) → k + 1 ≡ length rs → slice_index_or rs k r ≡ r → r.input ≡ i → n ≡ r.count + 1 →
    written (slice_set rs k (record { input = i; count = n })) ≡ written rs ++ i ∷ []
raised [] k i n r e is same more = absurd (omega arith)
raised (q ∷ []) zero i n r e is same more = rw (more, sym same, is, add-one) (append-nil (times (suc r.count) r.input) ∙ one_more r.count r.input ∙ ap (λ l. l ++ r.input ∷ []) (sym (append-nil (times r.count r.input))))
raised (q ∷ p ∷ rs) zero i n r e is same more = absurd (omega arith)
raised (q ∷ rs) (suc k) i n r e is same more =
    ap (λ l. times q.count q.input ++ l) (raised rs k i n r (omega arith) is same more) ∙ sym (append_assoc (times q.count q.input) (written rs) (i ∷ []))

pub one_time : (ns : List ℕ) (n i : ℕ) → (ns ++ times n i) ++ i ∷ [] ≡ ns ++ times (n + 1) i
one_time ns n i = append_assoc ns (times n i) (i ∷ []) ∙ ap (λ l. ns ++ l) (sym (one_more n i)) ∙ rw add-one refl

pub no_times : (ns : List ℕ) (i : ℕ) → ns ++ times 0 i ≡ ns
no_times ns i = append-nil ns

next_run : (rs : List Run) (k : ℕ) (d : Run) → k < length rs → written (take k rs) ++ times (slice_index_or rs k d).count (slice_index_or rs k d).input ≡ written (take (suc k) rs)
next_run [] k d lt = absurd (omega arith)
next_run (q ∷ rs) zero d lt = sym (append-nil (times q.count q.input))
next_run (q ∷ rs) (suc k) d lt = append_assoc (times q.count q.input) (written (take k rs)) (times (slice_index_or rs k d).count (slice_index_or rs k d).input) ∙ ap (λ l. times q.count q.input ++ l) (next_run rs k d (omega arith))

pub run_next : (rs : List Run) (k : ℕ) (d : Run) → k < length rs → written (take k rs) ++ times (slice_index_or rs k d).count (slice_index_or rs k d).input ≡ written (take (k + 1) rs)
run_next rs k d lt = next_run rs k d lt ∙ rw add-one refl

pub all_runs : (rs : List Run) (k : ℕ) → length rs ≤ k → written (take k rs) ≡ written rs
all_runs [] zero le = refl
all_runs [] (suc k) le = refl
all_runs (q ∷ rs) zero le = absurd (omega arith)
all_runs (q ∷ rs) (suc k) le = ap (λ l. times q.count q.input ++ l) (all_runs rs k (omega arith))

-- ---- whether a choice joins the last run

joins_at : (rs : List Run) (k i : ℕ) (r : Run) → k + 1 ≡ length rs → slice_get rs k ≡ Some r → (r.input == i) && nat_lt r.count (2 ^ 64 - 1) ≡ joins_last rs i
joins_at [] k i r e s = cc
joins_at (q ∷ []) zero i r e s = ap (λ z. (z.input == i) && nat_lt z.count (2 ^ 64 - 1)) (sym (same_Some q r s))
joins_at (q ∷ []) (suc k) i r e s = cc
joins_at (q ∷ p ∷ rs) zero i r e s = absurd (omega arith)
joins_at (q ∷ p ∷ rs) (suc k) i r e s = joins_at (p ∷ rs) k i r (omega arith) s

pub joins_end : (rs : List Run) (i : ℕ) (r : Run) → Some r ≡ slice_get rs (length rs - 1) → (r.input == i) && nat_lt r.count (2 ^ 64 - 1) ≡ joins_last rs i
joins_end [] i r s = cc
joins_end (q ∷ rs) i r s = joins_at (q ∷ rs) (length (q ∷ rs) - 1) i r (omega arith) (sym s)

pub joins_none : (rs : List Run) (i : ℕ) → None ≡ slice_get rs (length rs - 1) → false ≡ joins_last rs i
joins_none [] i s = refl
joins_none (q ∷ rs) i s = absurd (there (q ∷ rs) (length (q ∷ rs) - 1) (omega arith) (sym s))
  where
    there : (rs : List Run) (k : ℕ) → k < length rs → slice_get rs k ≡ None → ⊥
    there [] k lt e = omega arith
    there (q ∷ rs) zero lt e = cc
    there (q ∷ rs) (suc k) lt e = there rs k (omega arith) e

pub joins_there : (rs : List Run) (i : ℕ) → joins_last rs i ≡ true → 0 < length rs
joins_there [] i e = cc
joins_there (q ∷ rs) i e = omega arith

joins_same : (rs : List Run) (k i : ℕ) (r : Run) → joins_last rs i ≡ true → k + 1 ≡ length rs → r ≡ slice_index_or rs k r → (r.input == i) && nat_lt r.count (2 ^ 64 - 1) ≡ true
joins_same [] k i r j e was = absurd (omega arith)
joins_same (q ∷ []) zero i r j e was = ap (λ z. (z.input == i) && nat_lt z.count (2 ^ 64 - 1)) was ∙ j
joins_same (q ∷ []) (suc k) i r j e was = absurd (omega arith)
joins_same (q ∷ p ∷ rs) zero i r j e was = absurd (omega arith)
joins_same (q ∷ p ∷ rs) (suc k) i r j e was = joins_same (p ∷ rs) k i r j (omega arith) was

both_less : (a i c m : ℕ) → (a == i) && nat_lt c m ≡ true → (a ≡ i) × (c < m)
both_less a i c m e = (grind (arith, nat_tests), grind (arith, nat_tests))

pub joins_less : (rs : List Run) (k i : ℕ) (r : Run) → joins_last rs i ≡ true → k ≡ length rs - 1 → r ≡ slice_index_or rs k r → r.count < 2 ^ 64 - 1
joins_less rs k i r j e was = let some = joins_there rs i j in (both_less r.input i r.count (2 ^ 64 - 1) (joins_same rs k i r j (omega arith) was)).1

pub grown : (rs : List Run) (k i : ℕ) (r : Run) → joins_last rs i ≡ true → k ≡ length rs - 1 → r ≡ slice_index_or rs k r →
    written (slice_set rs k (record { input = r.input; count = r.count + 1 })) ≡ written rs ++ i ∷ []
grown rs k i r j e was =
    let some = joins_there rs i j in
    let same : r.input ≡ i = (both_less r.input i r.count (2 ^ 64 - 1) (joins_same rs k i r j (omega arith) was)).0 in
    raised rs k r.input (r.count + 1) r (omega arith) (sym was) refl refl ∙ ap (λ z. written rs ++ z ∷ []) same

grown_at : (rs : List Run) (k : ℕ) (r : Run) → k + 1 ≡ length rs → r ≡ slice_index_or rs k r → IsRuns rs → IsRuns (slice_set rs k (record { input = r.input; count = r.count + 1 }))
grown_at [] k r e was h = absurd (omega arith)
grown_at (q ∷ []) zero r e was h = (omega arith, tt, tt)
grown_at (q ∷ []) (suc k) r e was h = absurd (omega arith)
grown_at (q ∷ p ∷ rs) zero r e was h = absurd (omega arith)
grown_at (q ∷ p ∷ rs) (suc zero) r e was h = (h.0, (λ same. h.1 (ap (λ z. z.input) (sym was) ∙ same)), grown_at (p ∷ rs) zero r (omega arith) was h.2)
grown_at (q ∷ p ∷ rs) (suc (suc k)) r e was h = (h.0, h.1, grown_at (p ∷ rs) (suc k) r (omega arith) was h.2)

pub grown_runs : (rs : List Run) (k i : ℕ) (r : Run) → joins_last rs i ≡ true → k ≡ length rs - 1 → r ≡ slice_index_or rs k r → IsRuns rs → IsRuns (slice_set rs k (record { input = r.input; count = r.count + 1 }))
grown_runs rs k i r j e was h = let some = joins_there rs i j in grown_at rs k r (omega arith) was h

full : (a i c m : ℕ) → (a == i) && nat_lt c m ≡ false → i ≡ a → m ≤ c
full a i c m e s = grind (arith, nat_tests)

pub added_runs : (rs : List Run) (i : ℕ) → joins_last rs i ≡ false → IsRuns rs → IsRuns (rs ++ record { input = i; count = 1 } ∷ [])
added_runs [] i j h = (omega arith, tt, tt)
added_runs (r ∷ []) i j h = (h.0, full r.input i r.count (2 ^ 64 - 1) j, (omega arith, tt, tt))
added_runs (r ∷ q ∷ rs) i j h = (h.0, h.1, added_runs (q ∷ rs) i j h.2)

pub joins_then : (rs : List Run) (i : ℕ) (r : Run) → Some r ≡ slice_get rs (length rs - 1) → r.input ≡ i → nat_lt r.count 18446744073709551615 ≡ joins_last rs i
joins_then rs i r s e = ap (λ b. b && nat_lt r.count 18446744073709551615) (sym (eq-eqb r.input i e)) ∙ joins_end rs i r s

pub joins_else : (rs : List Run) (i : ℕ) (r : Run) → Some r ≡ slice_get rs (length rs - 1) → (r.input ≡ i → ⊥) → nat_eq r.input i ≡ joins_last rs i
joins_else rs i r s e = ne_eqb r.input i e ∙ ap (λ b. b && nat_lt r.count 18446744073709551615) (sym (ne_eqb r.input i e)) ∙ joins_end rs i r s

-- what the code of `joins_last` rests on
pub ruleset joining = (joins_end, joins_none, joins_then, joins_else)

-- what the code of `push` rests on
pub ruleset pushing = (grown, added, joins_there, joins_less, grown_runs, added_runs)
