-- The lines of a report on runs, as text.
use Rattle.std.specs.Prelude.{ℕ, List, ◌++◌, codes}
use Rattle.std.specs.Fmt.{decimal}
use Rattle.std.specs.List.{flat_map}
use Rattle.rsx_tck.specs.Rule.{class_text, text_of}
use Rattle.rsx_tck.specs.declared.rule.Verdict.{Verdict}
use Rattle.rsx_tck.specs.declared.rule.Verdict.TheVariants.{Held, Broken, NotJudged}
use Rattle.rsx_verify.specs.declared.line.Line.{Line}

-- a verdict with its run, as `broken in run 2 at 5`
abbrev pub run_text : ℕ → Verdict → List ℕ
run_text run Held = codes "held"
run_text run (Broken position) = codes "broken in run " ++ decimal run ++ codes " at " ++ decimal position
run_text run (NotJudged class) = codes "not judged: " ++ class_text class

-- a line, as `1.1 broken in run 2 at 5`
abbrev pub line_text : Line → List ℕ
line_text line = text_of line.rule ++ codes " " ++ run_text line.run line.verdict

-- each line with its newline, one after the other
abbrev pub lines_text : List Line → List ℕ
lines_text lines = flat_map (λ line. line_text line ++ codes "\n") lines
