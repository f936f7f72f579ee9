use Rattle.std.proofs.Common.{◌≡◌, take}
use Rattle.std.specs.String.{string_bytes}
use Rattle.rsx_tck.specs.Report.{report_text}
use Rattle.rsx_tck.specs.Verdicts.{IsReport}
use Rattle.rsx_tck.proofs.print.print_report.Given as goal

-- the text so far has the lines of the first rules
abbrev pub invariant-loop-rule : goal.invariant-loop-rule
invariant-loop-rule l = record {
  report : IsReport l.trace l.rule-items;
  text : string_bytes l.text ≡ report_text (take l.rule-index l.rule-items);
}
