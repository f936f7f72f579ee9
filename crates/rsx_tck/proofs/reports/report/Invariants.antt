use Rattle.std.proofs.Common.{◌≡◌, ℕ, ◌<◌, Some, length, slice_get}
use Rattle.rsx_tck.specs.declared.rule.Rule.{Rule}
use Rattle.rsx_tck.specs.declared.rule.Verdict.{Verdict}
use Rattle.rsx_tck.specs.Rule.{all_rules}
use Rattle.rsx_tck.specs.Verdicts.{Judged}
use Rattle.rsx_tck.proofs.reports.report.Given as goal

-- the lines so far are those of the first rules
abbrev pub invariant-loop-position : goal.invariant-loop-position
invariant-loop-position l = record {
  all : length l.lines ≡ 43;
  so_far : (k : ℕ) (r : Rule) → k < l.position → slice_get all_rules k ≡ Some r →
      (v : Verdict) × (slice_get l.lines k ≡ Some (r, v)) × Judged r l.trace v;
}
