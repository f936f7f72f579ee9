-- The lines of a report, one by one.
use Rattle.std.proofs.Common.{◌≡◌, ◌≢◌, ℕ, ◌+◌, ◌<◌, inl, inr, List, length, set, get_or, Some, slice_get, ap, ◌∙◌, subst, arith}
use Rattle.std.proofs.lemmas.Bool.{cases_eq}
use Rattle.std.proofs.lemmas.List.{get_or-set_other, length-set}
use Rattle.std.proofs.lemmas.Option.{slice_get-get_or, slice_get_within, get_or_from_slice_get}
use Rattle.rsx_types.proofs.Lists.{slice_get-set_same}
use Rattle.rsx_tck.specs.declared.event.Stamped.{Stamped}
use Rattle.rsx_tck.specs.declared.rule.Rule.{Rule}
use Rattle.rsx_tck.specs.declared.rule.Verdict.{Verdict}
use Rattle.rsx_tck.specs.Verdicts.{Judged}

pub slice_get-set_other : {X : Type 0} (l : List X) (i k : ℕ) (x y : X) → k ≢ i → slice_get l k ≡ Some y → slice_get (set l i x) k ≡ Some y
slice_get-set_other l i k x y ne h =
    let len = length-set l i x in
    let within = slice_get_within l k y h in
    slice_get-get_or (set l i x) k y (omega arith) ∙
    ap Some (get_or-set_other l i k x y ne ∙ get_or_from_slice_get l k y y h)

abbrev pub LinesBelow : List Rule → List Stamped → List (Rule × Verdict) → ℕ → Type 0
LinesBelow rules t lines n = (k : ℕ) (r : Rule) → k < n → slice_get rules k ≡ Some r →
    (v : Verdict) × (slice_get lines k ≡ Some (r, v)) × Judged r t v

pub lines-more : (rules : List Rule) (t : List Stamped) (lines : List (Rule × Verdict)) (i : ℕ) (d : Rule) (v : Verdict) →
    i < length lines → Judged (get_or rules i d) t v → LinesBelow rules t lines i →
    LinesBelow rules t (set lines i (get_or rules i d, v)) (i + 1)
lines-more rules t lines i d v within judged so_far k r lt h = elim (cases_eq k i) [
  | inl same ↦
      (let is : get_or rules i d ≡ r = get_or_from_slice_get rules i r d (subst (λ n. slice_get rules n ≡ Some r) same h) in (
        v,
        ap (λ n. slice_get (set lines i (get_or rules i d, v)) n) same ∙ slice_get-set_same lines i (get_or rules i d, v) within ∙
            ap (λ (x : Rule). Some (x, v)) is,
        subst (λ (x : Rule). Judged x t v) is judged,
      ))
  | inr apart ↦
      (let old = so_far k r (omega arith) h in
      (old.0, slice_get-set_other lines i k (get_or rules i d, v) (r, old.0) apart old.1, old.2))
]
