use Rattle.std.proofs.Common.{◌≡◌, take, ap, ◌∙◌, arith}
use Rattle.std.proofs.lemmas.List.{take_all}
use Rattle.rsx_tck.specs.Report.{report_text}
use Rattle.rsx_tck.proofs.print.print_report.Goals as goal

pub returns : goal.returns
returns c =
    let lines = c.report.result in
    let all : take c.loop-rule.rule-index lines ≡ lines = take_all c.loop-rule.rule-index lines (omega (arith, c.loop-rule-test.false)) in
    (lines, c.loop-rule.invariant.report, c.loop-rule.invariant.text ∙ ap report_text all)
