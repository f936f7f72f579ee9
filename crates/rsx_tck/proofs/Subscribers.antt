-- The subscribers that a trace names.
use Rattle.std.proofs.Common.{◌≡◌, ◌≢◌, ℕ, zero, suc, ◌+◌, ◌-◌, ◌^◌, ◌<◌, ◌≤◌, inl, inr, Bool, true, false, List, [], ◌∷◌, ◌++◌, length, take, get_or, refl, sym, ap, subst, arith, Option, Some, None, slice_get, min, nat_lt}
use Rattle.std.specs.Prelude.{if◌then◌else◌, MatchOption, unwrap_or}
use Rattle.std.proofs.Math.Seq.{take-suc}
use Rattle.std.proofs.lemmas.Bool.{ltb-true, ltb-false, cases_order, cases_lt}
use Rattle.std.proofs.lemmas.Option.{slice_get-get_or}
use Rattle.rsx_tck.specs.declared.event.Event.TheVariants.{Subscribe}
use Rattle.rsx_tck.specs.declared.event.Stamped.{Stamped}
use Rattle.rsx_tck.specs.Events.{subscriber_of}
use Rattle.rsx_tck.specs.Passes.{KeepsThrough, IsFirstBreach, BeginsAt, least_from, IsJudged}
use Rattle.rsx_tck.specs.Laws.Positions.{slice_get-cases}

-- the least number, as the trace goes on
first_one : (t : List Stamped) (e : Stamped) (from : ℕ) (early : Bool) → nat_lt (subscriber_of e.event) from ≡ early → BeginsAt t from None →
    BeginsAt (t ++ e ∷ []) from (if early then None else Some (subscriber_of e.event))
first_one t e from true h none = λ i x f. elim (slice_get-cases t e i x f) [
  | inl old ↦ none i x old
  | inr (n, is) ↦ subst (λ (y : Stamped). subscriber_of y.event < from) is (ltb-true (subscriber_of e.event) from h)
]
first_one t e from false h none = (
  ltb-false (subscriber_of e.event) from h,
  (λ i x f le. elim (slice_get-cases t e i x f) [
    | inl old ↦ (let below = none i x old in absurd (omega arith))
    | inr (n, is) ↦ (let same = ap (λ (y : Stamped). subscriber_of y.event) is in omega arith)
  ]),
)

next_one : (t : List Stamped) (e : Stamped) (from s : ℕ) (early : Bool) → nat_lt (subscriber_of e.event) from ≡ early → BeginsAt t from (Some s) →
    BeginsAt (t ++ e ∷ []) from (if early then Some s else Some (min s (subscriber_of e.event)))
next_one t e from s true h (above, least) = (
  above,
  (λ i x f le. elim (slice_get-cases t e i x f) [
    | inl old ↦ least i x old le
    | inr (n, is) ↦
        (let same = ap (λ (y : Stamped). subscriber_of y.event) is in
        let early = ltb-true (subscriber_of e.event) from h in absurd (omega arith))
  ]),
)
next_one t e from s false h (above, least) =
    let late = ltb-false (subscriber_of e.event) from h in (
      omega arith,
      (λ i x f le. elim (slice_get-cases t e i x f) [
        | inl old ↦ (let least_old = least i x old le in omega arith)
        | inr (n, is) ↦ (let same = ap (λ (y : Stamped). subscriber_of y.event) is in omega arith)
      ]),
    )

pub begins_at-more : (t : List Stamped) (e : Stamped) (from : ℕ) (least : Option ℕ) → BeginsAt t from least →
    BeginsAt (t ++ e ∷ []) from (least_from from (subscriber_of e.event) least)
begins_at-more t e from None begins = first_one t e from (nat_lt (subscriber_of e.event) from) refl begins
begins_at-more t e from (Some s) begins = next_one t e from s (nat_lt (subscriber_of e.event) from) refl begins

-- a subscriber that no event names keeps every sentence
kept_at : (keeps : ℕ → List Stamped → Type 0) → ((s : ℕ) → keeps s []) →
    ((s : ℕ) (past : List Stamped) (e : Stamped) → subscriber_of e.event ≢ s → keeps s past → keeps s (past ++ e ∷ [])) →
    (t : List Stamped) (s : ℕ) → ((i : ℕ) (e : Stamped) → slice_get t i ≡ Some e → subscriber_of e.event ≢ s) →
    (n : ℕ) → n ≤ length t → keeps s (take n t)
kept_at keeps first on t s unnamed zero le = first s
kept_at keeps first on t s unnamed (suc n) le =
    let d : Stamped = record { worker = 0; event = Subscribe 0 } in
    let lt : n < length t = omega arith in
    subst (keeps s) (sym (take-suc t n d lt))
    (on s (take n t) (get_or t n d) (unnamed n (get_or t n d) (slice_get-get_or t n d lt))
    (kept_at keeps first on t s unnamed n (omega arith)))

pub absent : (keeps : ℕ → List Stamped → Type 0) → ((s : ℕ) → keeps s []) →
    ((s : ℕ) (past : List Stamped) (e : Stamped) → subscriber_of e.event ≢ s → keeps s past → keeps s (past ++ e ∷ [])) →
    (t : List Stamped) (s : ℕ) → ((i : ℕ) (e : Stamped) → slice_get t i ≡ Some e → subscriber_of e.event ≢ s) →
    (n : ℕ) → n ≤ length t → KeepsThrough (keeps s) t n
absent keeps first on t s unnamed n le j lt = kept_at keeps first on t s unnamed (suc j) (omega arith)

-- those between `from` and the next one are named by no event
pub unnamed-before : (t : List Stamped) (from s : ℕ) (next : Option ℕ) → BeginsAt t from next → from ≤ s → IsJudged next s →
    (i : ℕ) (e : Stamped) → slice_get t i ≡ Some e → subscriber_of e.event ≢ s
unnamed-before t from s None begins above judged i e f same = let early = begins i e f in omega arith
unnamed-before t from s (Some next) (_, least) above judged i e f same =
    let late = least i e f (omega arith) in omega arith

-- how many numbers are left from the next subscriber on
abbrev pub numbers_left : Option ℕ → ℕ
numbers_left None = 0
numbers_left (Some s) = 2 ^ 64 - s

fewer_left : (t : List Stamped) (s : ℕ) (next : Option ℕ) → s < 2 ^ 64 → BeginsAt t (s + 1) next → numbers_left next < 2 ^ 64 - s
fewer_left t s None lt begins = omega arith
fewer_left t s (Some next) lt (above, least) = omega arith

pub numbers_left-smaller : (t : List Stamped) (s : ℕ) (next next' : Option ℕ) → next ≡ Some s → s < 2 ^ 64 → BeginsAt t (s + 1) next' →
    numbers_left next' < numbers_left next
numbers_left-smaller t s next next' is lt begins =
    subst (λ (n : Option ℕ). numbers_left next' < numbers_left n) (sym is) (fewer_left t s next' lt begins)

-- one subscriber more is judged: `end` is the first breach so far, or the trace's length
up_to : (keeps : List Stamped → Type 0) (t : List Stamped) (end : ℕ) (result : Option ℕ) → end ≤ length t →
    MatchOption result (KeepsThrough keeps t (length t)) (IsFirstBreach keeps t) →
    KeepsThrough keeps t (min end (unwrap_or result end))
up_to keeps t end None within answer j lt = answer j (omega arith)
up_to keeps t end (Some i) within answer j lt = answer.2 j (omega arith)

breach_at : (keeps : ℕ → List Stamped → Type 0) (t : List Stamped) (s end : ℕ) (result : Option ℕ) → end ≤ length t →
    MatchOption result (KeepsThrough (keeps s) t (length t)) (IsFirstBreach (keeps s) t) →
    (end < length t → (s' : ℕ) × (¬ keeps s' (take (suc end) t))) →
    min end (unwrap_or result end) < length t → (s' : ℕ) × (¬ keeps s' (take (suc (min end (unwrap_or result end))) t))
breach_at keeps t s end None within answer broken lt =
    let same : min end end ≡ end = omega arith in
    let old = broken (omega arith) in
    (old.0, subst (λ n. ¬ keeps old.0 (take (suc n) t)) (sym same) old.1)
breach_at keeps t s end (Some i) within answer broken lt = elim (cases_lt end i) [
  | inl before ↦
      (let same : min end i ≡ end = omega arith in
      let old = broken (omega arith) in
      (old.0, subst (λ n. ¬ keeps old.0 (take (suc n) t)) (sym same) old.1))
  | inr after ↦
      (let same : min end i ≡ i = omega arith in
      (s, subst (λ n. ¬ keeps s (take (suc n) t)) (sym same) answer.1))
]

min_below : (end n j : ℕ) → j < min end n → j < end
min_below end n j lt = omega arith

min_within : (end n : ℕ) (t : List Stamped) → end ≤ length t → min end n ≤ length t
min_within end n t within = omega arith

pub judged-more : (keeps : ℕ → List Stamped → Type 0) → ((s : ℕ) → keeps s []) →
    ((s : ℕ) (past : List Stamped) (e : Stamped) → subscriber_of e.event ≢ s → keeps s past → keeps s (past ++ e ∷ [])) →
    (t : List Stamped) (s end : ℕ) (result next next' : Option ℕ) → next ≡ Some s → BeginsAt t (s + 1) next' →
    MatchOption result (KeepsThrough (keeps s) t (length t)) (IsFirstBreach (keeps s) t) →
    end ≤ length t →
    (end < length t → (s' : ℕ) × (¬ keeps s' (take (suc end) t))) →
    ((s' : ℕ) → IsJudged next s' → KeepsThrough (keeps s') t end) →
    (min end (unwrap_or result end) ≤ length t)
    × (min end (unwrap_or result end) < length t → (s' : ℕ) × (¬ keeps s' (take (suc (min end (unwrap_or result end))) t)))
    × ((s' : ℕ) → IsJudged next' s' → KeepsThrough (keeps s') t (min end (unwrap_or result end)))
judged-more keeps first on t s end result next next' is begins answer within broken through = (
  min_within end (unwrap_or result end) t within,
  breach_at keeps t s end result within answer broken,
  (λ s' judged. elim (cases_order s' s) [
    | inl same ↦ subst (λ n. KeepsThrough (keeps n) t (min end (unwrap_or result end))) (sym same)
        (up_to (keeps s) t end result within answer)
    | inr apart ↦ elim apart [
      | inl before ↦ (λ j lt. through s' (subst (λ (n : Option ℕ). IsJudged n s') (sym is) before) j
          (min_below end (unwrap_or result end) j lt))
      | inr after ↦ absent keeps first on t s' (unnamed-before t (s + 1) s' next' begins (omega arith) judged)
          (min end (unwrap_or result end)) (min_within end (unwrap_or result end) t within)
    ]
  ]),
)

pub judged-none : (keeps : ℕ → List Stamped → Type 0) → ((s : ℕ) → keeps s []) →
    ((s : ℕ) (past : List Stamped) (e : Stamped) → subscriber_of e.event ≢ s → keeps s past → keeps s (past ++ e ∷ [])) →
    (t : List Stamped) (next : Option ℕ) → BeginsAt t 0 next →
    (s : ℕ) → IsJudged next s → KeepsThrough (keeps s) t (length t)
judged-none keeps first on t next begins s judged =
    absent keeps first on t s (unnamed-before t 0 s next begins (omega arith) judged) (length t) (omega arith)

pub all_judged : (next : Option ℕ) (s : ℕ) → next ≡ None → IsJudged next s
all_judged next s is = subst (λ (n : Option ℕ). IsJudged n s) (sym is) tt
