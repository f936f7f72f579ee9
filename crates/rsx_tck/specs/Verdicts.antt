-- When a verdict is right.
use Rattle.std.specs.Prelude.{◌≡◌, ℕ, suc, ◌<◌, List, length, take, slice_get, Some, None}
use Rattle.rsx_tck.specs.declared.event.Stamped.{Stamped}
use Rattle.rsx_tck.specs.declared.rule.Rule.{Rule}
use Rattle.rsx_tck.specs.declared.rule.Verdict.{Verdict}
use Rattle.rsx_tck.specs.declared.rule.Verdict.TheVariants.{Held, Broken, NotJudged}
use Rattle.rsx_tck.specs.Rule.{all_rules, class_of}
use Rattle.rsx_tck.specs.Sentences.{Keeps}

-- the trace keeps the rule's sentence, for each subscriber
abbrev pub AllKeep : Rule → List Stamped → Type 0
AllKeep r t = (s : ℕ) → Keeps r s t

-- the verdict on a rule: held where no list of the first events breaks it, broken at the least position
-- such that the events up to and with it do, and not judged, with its class, where it has one
abbrev pub Judged : Rule → List Stamped → Verdict → Type 0
Judged r t Held = (class_of r ≡ None) × ((j : ℕ) → j < length t → AllKeep r (take (suc j) t))
Judged r t (Broken i) =
    (class_of r ≡ None) × (i < length t) × (¬ AllKeep r (take (suc i) t)) × ((j : ℕ) → j < i → AllKeep r (take (suc j) t))
Judged r t (NotJudged class) = class_of r ≡ Some class

-- a report has the verdict on each rule, in the order of the rules
abbrev pub IsReport : List Stamped → List (Rule × Verdict) → Type 0
IsReport t lines =
    (length lines ≡ 43)
    × ((k : ℕ) (r : Rule) → slice_get all_rules k ≡ Some r → (v : Verdict) × (slice_get lines k ≡ Some (r, v)) × Judged r t v)
