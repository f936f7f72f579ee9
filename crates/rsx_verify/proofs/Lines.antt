-- The lines of a report, one by one.
use Rattle.std.proofs.Common.{◌≡◌, ℕ, suc, ◌+◌, ◌<◌, inl, inr, false, List, length, set, get_or, Some, slice_get, refl, sym, ap, ◌∙◌, subst, arith}
use Rattle.std.specs.Prelude.{if◌then◌else◌}
use Rattle.std.proofs.lemmas.Bool.{cases_eq}
use Rattle.std.proofs.lemmas.Option.{get_or_from_slice_get, same_Some, slice_get-get_or, slice_get_within}
use Rattle.rsx_types.proofs.Lists.{slice_get-set_same}
use Rattle.rsx_verify.specs.Prelude.{AreKept, AreLines, AreUnbroken, IsKept, IsLine, IsUnbroken, Line, Rule, Stamped, all_rules, first_broken, is_broken, line_of}
use Rattle.rsx_tck.specs.declared.rule.Rule.TheVariants as rule
use Rattle.rsx_tck.specs.declared.rule.Verdict.{Verdict}
use Rattle.rsx_tck.specs.declared.rule.Verdict.TheVariants.{Held, Broken, NotJudged}
use Rattle.rsx_tck.specs.Verdicts.{Judged}
use Rattle.rsx_tck.proofs.ReportLines.{slice_get-set_other}

-- there are lines for the first rules, so many of them
abbrev pub LinesBelow : (Rule → Line → Type 0) → List Line → ℕ → Type 0
LinesBelow P lines n = (k : ℕ) (r : Rule) → k < n → slice_get all_rules k ≡ Some r → (line : Line) × (slice_get lines k ≡ Some line) × P r line

pub lines_more : (P : Rule → Line → Type 0) (rules : List Rule) (lines : List Line) (i : ℕ) (d : Rule) (line : Line) →
    rules ≡ all_rules → i < length lines → P (get_or rules i d) line → LinesBelow P lines i → LinesBelow P (set lines i line) (i + 1)
lines_more P rules lines i d line all within judged so_far k r lt h = elim (cases_eq k i) [
  | inl same ↦
      (let there : slice_get rules i ≡ Some r = ap (λ l. slice_get l i) all ∙ subst (λ n. slice_get all_rules n ≡ Some r) same h in
      let is : get_or rules i d ≡ r = get_or_from_slice_get rules i r d there in
      (line, ap (λ n. slice_get (set lines i line) n) same ∙ slice_get-set_same lines i line within, subst (λ (x : Rule). P x line) is judged))
  | inr apart ↦
      (let old = so_far k r (omega arith) h in
      (old.0, slice_get-set_other lines i k line old.0 apart old.1, old.2))
]

-- ---- none is broken

unbroken : (r : Rule) (t : List Stamped) (v : Verdict) → IsKept r t → Judged r t v → is_broken v ≡ false
unbroken r t Held kept judged = refl
unbroken r t (NotJudged c) kept judged = refl
unbroken r t (Broken i) kept judged = absurd (judged.2 (kept (suc i)))

unbroken_line : (t u v w : List Stamped) (r : Rule) (line : Line) → IsKept r t → IsKept r u → IsKept r v → IsKept r w → IsLine t u v w r line → IsUnbroken line
unbroken_line t u v w r line kt ku kv kw (a, (b, (c, (d, (ja, jb, jc, jd, is))))) =
    let fa = unbroken r t a kt ja in
    let fb = unbroken r u b ku jb in
    let fc = unbroken r v c kv jc in
    let fd = unbroken r w d kw jd in
    let none : first_broken a b c d ≡ (0, a) =
    ap (λ x. if x then (1, a) else (if is_broken b then (2, b) else (if is_broken c then (3, c) else (if is_broken d then (4, d) else (0, a))))) fa
    ∙ (ap (λ x. if x then (2, b) else (if is_broken c then (3, c) else (if is_broken d then (4, d) else (0, a)))) fb
    ∙ (ap (λ x. if x then (3, c) else (if is_broken d then (4, d) else (0, a))) fc
    ∙ ap (λ x. if x then (4, d) else (0, a)) fd)) in
    let whole : line ≡ line_of r (0, a) = is ∙ ap (line_of r) none in
    (ap (λ l. l.run) whole, ap (λ l. is_broken l.verdict) whole ∙ fa)

-- where four traces keep the rules, no line on them is broken
pub unbroken_lines : (t u v w : List Stamped) (lines : List Line) → AreKept t → AreKept u → AreKept v → AreKept w → AreLines (IsLine t u v w) lines → AreUnbroken lines
unbroken_lines t u v w lines kt ku kv kw (count, judged) k line there =
    let below : k < 43 = (let lt = slice_get_within lines k line there in omega (arith, lt, count)) in
    let r = get_or all_rules k rule.Rule1_1 in
    let found = judged k r (slice_get-get_or all_rules k rule.Rule1_1 below) in
    let same : found.0 ≡ line = same_Some found.0 line (sym found.1 ∙ there) in
    let U : Line → Type 0 = λ l. IsUnbroken l in
    subst U same (unbroken_line t u v w r found.0 (kt r) (ku r) (kv r) (kw r) found.2)
