use Rattle.std.proofs.Common.{◌∙◌, ap, arith}
use Rattle.std.proofs.lemmas.List.{length-set}
use Rattle.std.proofs.lemmas.Option.{slice_get_within}
use Rattle.rsx_verify.specs.Prelude.{IsLine, all_rules, line_of}
use Rattle.rsx_verify.proofs.Lines.{lines_more}
use Rattle.rsx_verify.proofs.reports.judge_runs.Goals as goal

pub loop-position-preserved : goal.loop-position-preserved
loop-position-preserved c = record {
  all = length-set c.loop-position.lines c.loop-position.position _ ∙ c.loop-position.invariant.all;
  so_far = lines_more (IsLine c.args.first.now c.args.second.now c.args.third.now c.args.fourth.now) c.all-rules.result c.loop-position.lines c.loop-position.position _ _ c.all-rules.ensures
      (omega (arith, c.loop-position.invariant.all, c.loop-position-test.true)) (c.judge.result, (c.judge-in-loop-position.result, (c.judge-in-loop-position-2.result, (c.judge-in-loop-position-3.result, (c.judge.ensures, c.judge-in-loop-position.ensures, c.judge-in-loop-position-2.ensures, c.judge-in-loop-position-3.ensures, ap (line_of _) c.first_broken-run.ensures))))) c.loop-position.invariant.so_far;
}

pub returns : goal.returns
returns c = (
  c.loop-position.invariant.all,
  (λ k r h. let within = slice_get_within all_rules k r h in
      c.loop-position.invariant.so_far k r (omega (arith, within, c.loop-position-test.false)) h),
)
