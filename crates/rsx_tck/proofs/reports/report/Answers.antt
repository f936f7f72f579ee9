use Rattle.std.proofs.Common.{refl, ◌∙◌, arith}
use Rattle.std.proofs.lemmas.List.{length-set}
use Rattle.std.proofs.lemmas.Option.{slice_get_within}
use Rattle.rsx_tck.specs.Rule.{all_rules}
use Rattle.rsx_tck.specs.declared.rule.Rule.TheVariants.{Rule1_1}
use Rattle.rsx_tck.proofs.ReportLines.{lines-more}
use Rattle.rsx_tck.proofs.reports.report.Goals as goal

pub loop-position-init : goal.loop-position-init
loop-position-init c = record { all = refl; so_far = λ k r lt. absurd (omega arith) }

pub loop-position-preserved : goal.loop-position-preserved
loop-position-preserved c = record {
  all = length-set c.loop-position.lines c.loop-position.position _ ∙ c.loop-position.invariant.all;
  so_far = lines-more all_rules c.args.trace.now c.loop-position.lines c.loop-position.position Rule1_1 c.judge.result
      (omega arith) c.judge.ensures c.loop-position.invariant.so_far;
}

pub returns : goal.returns
returns c = (
  c.loop-position.invariant.all,
  (λ k r h. let within = slice_get_within all_rules k r h in
      c.loop-position.invariant.so_far k r (omega arith) h),
)
