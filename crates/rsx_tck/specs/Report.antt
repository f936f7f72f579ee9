-- A report as text: a line for each rule.
use Rattle.std.specs.Prelude.{◌≡◌, ℕ, List, ◌++◌, codes}
use Rattle.std.specs.List.{flat_map}
use Rattle.rsx_tck.specs.declared.event.Stamped.{Stamped}
use Rattle.rsx_tck.specs.declared.rule.Rule.{Rule}
use Rattle.rsx_tck.specs.declared.rule.Verdict.{Verdict}
use Rattle.rsx_tck.specs.Rule.{text_of, verdict_text}
use Rattle.rsx_tck.specs.Verdicts.{IsReport}

-- a rule's line, as `1.1 broken at 6`, with its newline
abbrev pub rule_line : Rule × Verdict → List ℕ
rule_line line = text_of line.0 ++ codes " " ++ verdict_text line.1 ++ codes "\n"

-- the lines of a report, one after the other
abbrev pub report_text : List (Rule × Verdict) → List ℕ
report_text lines = flat_map rule_line lines

-- the text has the verdict on each rule, in the order of the rules
abbrev pub IsReportText : List Stamped → List ℕ → Type 0
IsReportText trace text = (lines : List (Rule × Verdict)) × IsReport trace lines × (text ≡ report_text lines)
