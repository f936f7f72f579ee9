-- The last choice of runs, taken away.
use Rattle.std.proofs.Common.{◌≡◌, ◌-◌, ◌<◌, ◌≤◌, nat_lt, false, List, [], ◌∷◌, ◌++◌, refl, ap, sym, ◌∙◌, arith}
use Rattle.std.proofs.lemmas.Bool.{lt-ltb}
use Rattle.std.proofs.lemmas.List.{append-nil}
use Rattle.std.proofs.lemmas.Bool.Decides.{nat_tests}
use Rattle.rsx_values.specs.declared.record.Run.{Run}
use Rattle.rsx_delayed.specs.TwoRuns.{AreFilled, lowered, without_choice}

-- ---- behind runs of which the last was taken out

behind : (rs : List Run) (r : Run) → without_choice (rs ++ r ∷ []) ≡ rs ++ lowered r
behind [] r = refl
behind (q ∷ []) r = refl
behind (q ∷ p ∷ rs) r = ap (λ l. q ∷ l) (behind (p ∷ rs) r)

lowers : (r : Run) → 1 < r.count → lowered r ≡ record { input = r.input; count = r.count - 1 } ∷ []
lowers r more = rw (lt-ltb 1 r.count more) refl

goes : (r : Run) → nat_lt 1 r.count ≡ false → lowered r ≡ []
goes r few = rw few refl

-- one choice of the last run is taken away
pub lowered_last : (rs : List Run) (r : Run) → 1 < r.count → rs ++ record { input = r.input; count = r.count - 1 } ∷ [] ≡ without_choice (rs ++ r ∷ [])
lowered_last rs r more = ap (λ l. rs ++ l) (sym (lowers r more)) ∙ sym (behind rs r)

-- the last run was of one choice
pub without_last : (rs : List Run) (r : Run) → r.count ≤ 1 → rs ≡ without_choice (rs ++ r ∷ [])
without_last rs r few = sym (append-nil rs) ∙ ap (λ l. rs ++ l) (sym (goes r (grind (arith, nat_tests)))) ∙ sym (behind rs r)

pub filled_before : (rs : List Run) (r : Run) → AreFilled (rs ++ r ∷ []) → AreFilled rs
filled_before [] r h = tt
filled_before (q ∷ rs) r h = (h.0, filled_before rs r h.1)

pub filled_with : (rs : List Run) (r : Run) → 1 ≤ r.count → AreFilled rs → AreFilled (rs ++ r ∷ [])
filled_with [] r more h = (more, tt)
filled_with (q ∷ rs) r more h = (h.0, filled_with rs r more h.1)
