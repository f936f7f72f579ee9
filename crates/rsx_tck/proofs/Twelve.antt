-- The sentences of the twelve rules, together.
use Rattle.std.proofs.Common.{◌≡◌, ℕ, suc, List, length, take, sym, subst, Option, Some, None}
use Rattle.std.specs.Prelude.{MatchOption}
use Rattle.rsx_tck.specs.declared.event.Stamped.{Stamped}
use Rattle.rsx_tck.specs.declared.rule.Rule.{Rule}
use Rattle.rsx_tck.specs.declared.rule.Rule.TheVariants as rule
use Rattle.rsx_tck.specs.Sentences.{Sentence}
use Rattle.rsx_tck.specs.Verdicts.{AllKeep}
use Rattle.rsx_tck.specs.Passes.{KeepsThrough, IsFirstBreach}

-- the twelve sentences as one pass has them
abbrev pub Twelve : ℕ → List Stamped → Type 0
Twelve s t =
    (Sentence rule.Rule1_1 s t × (Sentence rule.Rule1_3 s t × (Sentence rule.Rule1_7 s t × (Sentence rule.Rule1_9 s t × Sentence rule.Rule1_10 s t))))
    × ((Sentence rule.Rule2_1 s t × (Sentence rule.Rule2_3 s t × (Sentence rule.Rule2_5 s t × Sentence rule.Rule2_12 s t)))
    × (Sentence rule.Rule3_6 s t × (Sentence rule.Rule3_9 s t × Sentence rule.Rule3_17 s t)))

pub each_of_twelve : (s : ℕ) (t : List Stamped) → Twelve s t → (r : Rule) → Sentence r s t
each_of_twelve s t kept rule.Rule1_1 = kept.0.0
each_of_twelve s t kept rule.Rule1_3 = kept.0.1.0
each_of_twelve s t kept rule.Rule1_7 = kept.0.1.1.0
each_of_twelve s t kept rule.Rule1_9 = kept.0.1.1.1.0
each_of_twelve s t kept rule.Rule1_10 = kept.0.1.1.1.1
each_of_twelve s t kept rule.Rule2_1 = kept.1.0.0
each_of_twelve s t kept rule.Rule2_3 = kept.1.0.1.0
each_of_twelve s t kept rule.Rule2_5 = kept.1.0.1.1.0
each_of_twelve s t kept rule.Rule2_12 = kept.1.0.1.1.1
each_of_twelve s t kept rule.Rule3_6 = kept.1.1.0
each_of_twelve s t kept rule.Rule3_9 = kept.1.1.1.0
each_of_twelve s t kept rule.Rule3_17 = kept.1.1.1.1
each_of_twelve s t kept _ = tt

pub twelve_of_each : (s : ℕ) (t : List Stamped) → ((r : Rule) → Sentence r s t) → Twelve s t
twelve_of_each s t kept = (
  (kept rule.Rule1_1, (kept rule.Rule1_3, (kept rule.Rule1_7, (kept rule.Rule1_9, kept rule.Rule1_10)))),
  (
    (kept rule.Rule2_1, (kept rule.Rule2_3, (kept rule.Rule2_5, kept rule.Rule2_12))),
    (kept rule.Rule3_6, (kept rule.Rule3_9, kept rule.Rule3_17)),
  ),
)

-- what was found of one statement is found of another that says the same
pub found_same : (P Q : List Stamped → Type 0) (t : List Stamped) (result : Option ℕ) → ((u : List Stamped) → P u → Q u) →
    ((u : List Stamped) → Q u → P u) →
    MatchOption result (KeepsThrough P t (length t)) (IsFirstBreach P t) →
    MatchOption result (KeepsThrough Q t (length t)) (IsFirstBreach Q t)
found_same P Q t None to from found = λ j lt. to (take (suc j) t) (found j lt)
found_same P Q t (Some i) to from (lt, breach, through) =
    (lt, (λ kept. breach (from (take (suc i) t) kept)), (λ j less. to (take (suc j) t) (through j less)))

pub found_twelve : (t : List Stamped) (result : Option ℕ) →
    MatchOption result (KeepsThrough (λ u. (s : ℕ) → Twelve s u) t (length t)) (IsFirstBreach (λ u. (s : ℕ) → Twelve s u) t) →
    MatchOption result (KeepsThrough (AllKeep rule.Rule4_1) t (length t)) (IsFirstBreach (AllKeep rule.Rule4_1) t)
found_twelve t result found =
    found_same (λ u. (s : ℕ) → Twelve s u) (AllKeep rule.Rule4_1) t result
    (λ u kept s. each_of_twelve s u (kept s)) (λ u kept s. twelve_of_each s u (kept s)) found

pub found_rule : (r judged : Rule) (t : List Stamped) (result : Option ℕ) → r ≡ judged →
    MatchOption result (KeepsThrough (AllKeep judged) t (length t)) (IsFirstBreach (AllKeep judged) t) →
    MatchOption result (KeepsThrough (AllKeep r) t (length t)) (IsFirstBreach (AllKeep r) t)
found_rule r judged t result is found =
    subst (λ (x : Rule). MatchOption result (KeepsThrough (AllKeep x) t (length t)) (IsFirstBreach (AllKeep x) t)) (sym is) found
