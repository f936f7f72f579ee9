use Rattle.std.proofs.Common.{◌≡◌, ◌++◌, take, ap, ◌∙◌, arith}
use Rattle.std.proofs.lemmas.List.{take_all}
use Rattle.rsx_tck.specs.Explained.{breaches_text, summary_of, summary_text}
use Rattle.rsx_tck.proofs.explain.print_explained.Goals as goal

pub returns : goal.returns
returns c =
    let lines = c.report-lines.result in
    let all : take c.loop-rule.rule-index lines ≡ lines = take_all c.loop-rule.rule-index lines (omega (arith, c.loop-rule-test.false)) in (
      lines,
      c.loop-rule.invariant.report,
      c.loop-rule.invariant.text ∙ ap (λ ls. summary_text (summary_of lines) ++ breaches_text c.args.first c.args.trace.now ls) all,
    )
