-- A report as text that explains it: how many rules are held and broken, and for each broken one the event and the sentence.
use Rattle.std.specs.Prelude.{◌≡◌, ℕ, Bool, true, false, List, [], ◌++◌, Option, Some, None, codes, count_by, slice_get}
use Rattle.std.specs.Fmt.{decimal}
use Rattle.std.specs.List.{flat_map}
use Rattle.rsx_demand.specs.Demand.{saturating_total}
use Rattle.rsx_tck.specs.declared.event.Stamped.{Stamped}
use Rattle.rsx_tck.specs.Format.{event_text}
use Rattle.rsx_tck.specs.declared.explain.Summary.{Summary}
use Rattle.rsx_tck.specs.declared.rule.Rule.{Rule}
use Rattle.rsx_tck.specs.declared.rule.Verdict.{Verdict}
use Rattle.rsx_tck.specs.declared.rule.Verdict.TheVariants.{Held, Broken, NotJudged}
use Rattle.rsx_tck.specs.Purpose.{sentence_text}
use Rattle.rsx_tck.specs.Rule.{text_of}
use Rattle.rsx_tck.specs.Verdicts.{IsReport}

abbrev pub is_held : Verdict → Bool
is_held Held = true
is_held (Broken i) = false
is_held (NotJudged c) = false

abbrev pub is_broken : Verdict → Bool
is_broken Held = false
is_broken (Broken i) = true
is_broken (NotJudged c) = false

-- how many rules these verdicts find held, and how many they find broken
abbrev pub summary_of : List (Rule × Verdict) → Summary
summary_of lines = record { held = count_by (λ line. is_held line.1) lines; broken = count_by (λ line. is_broken line.1) lines }

-- the line that sums up
abbrev pub summary_text : Summary → List ℕ
summary_text summary = decimal summary.held ++ (codes " rules held, " ++ (decimal summary.broken ++ codes " broken\n"))

-- the event at a position, with its worker
abbrev pub event_text_of : Option Stamped → List ℕ
event_text_of None = []
event_text_of (Some e) = codes ": " ++ (event_text e.event ++ (codes " on worker " ++ decimal e.worker))

abbrev pub event_there : List Stamped → ℕ → List ℕ
event_there trace position = event_text_of (slice_get trace position)

-- the number of the line of the event at this position, where the trace's first line has the number `first`; at most 2^63-1
abbrev pub line_at : ℕ → ℕ → ℕ
line_at first position = saturating_total (saturating_total first 1) position

-- a rule and the position at which it is broken, with the number of that line
abbrev pub place_text : ℕ → Rule → ℕ → List ℕ
place_text first rule position = text_of rule ++ (codes " broken at " ++ (decimal position ++ (codes ", line " ++ decimal (line_at first position))))

-- a rule's sentence, on a line of its own
abbrev pub sentence_line : Rule → List ℕ
sentence_line rule = codes "\n    " ++ (sentence_text rule ++ codes "\n")

-- a rule that is broken at this position, the event there, and the rule's sentence
abbrev pub breach_text : ℕ → List Stamped → Rule → ℕ → List ℕ
breach_text first trace rule position = place_text first rule position ++ (event_there trace position ++ sentence_line rule)

-- what is said of a rule: nothing, where it isn't broken
abbrev pub explained_line : ℕ → List Stamped → Rule × Verdict → List ℕ
explained_line first trace (rule, Held) = []
explained_line first trace (rule, Broken position) = breach_text first trace rule position
explained_line first trace (rule, NotJudged class) = []

abbrev pub breaches_text : ℕ → List Stamped → List (Rule × Verdict) → List ℕ
breaches_text first trace lines = flat_map (explained_line first trace) lines

-- how many rules are held and how many are broken, and then the broken ones, in the order of the rules
abbrev pub explained_text : ℕ → List Stamped → List (Rule × Verdict) → List ℕ
explained_text first trace lines = summary_text (summary_of lines) ++ breaches_text first trace lines

-- the text explains the verdicts on the trace
abbrev pub IsExplainedText : ℕ → List Stamped → List ℕ → Type 0
IsExplainedText first trace text = (lines : List (Rule × Verdict)) × IsReport trace lines × (text ≡ explained_text first trace lines)
