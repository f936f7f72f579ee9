-- Inputs of expressions and traces, and what they are answered with, whatever answers the expressions.
use Rattle.std.specs.Prelude.{◌≡◌, ℕ, ◌+◌, ◌<◌, ◌⊎◌, Bool, true, false, List, [], ◌∷◌, ◌++◌, length, min, Option, Some, None, Result, Ok, Err, codes, ⊤}
use Rattle.std.specs.Fmt.{decimal}
use Rattle.std.specs.List.{flat_map, position}
use Rattle.std.specs.Str.{bytes_eq}
use Rattle.rsx_script.specs.declared.words.LineRefusal.{LineRefusal}
use Rattle.rsx_script.specs.declared.words.LineRefusal.TheVariants.{Syntax, TooLong, NoMemory}
use Rattle.rsx_script.specs.Reading.{Left, line_of, next_at}
use Rattle.rsx_script.specs.Words.{Written, is_written}
use Rattle.rsx_script.specs.Words as written
use Rattle.rsx_tck.specs.declared.event.Stamped.{Stamped}
use Rattle.rsx_tck.specs.declared.reader.BadLine.{BadLine}
use Rattle.rsx_tck.specs.declared.reader.BadLine.TheVariants.{At}
use Rattle.rsx_tck.specs.declared.reader.BadLine.TheVariants as bad
use Rattle.rsx_tck.specs.declared.reader.TraceReader.{TraceReader}
use Rattle.rsx_tck.specs.Grammar.{AreTrace}
use Rattle.rsx_tck.specs.Opening.{HasTaken, IsWrongLast, LacksEnd}
use Rattle.rsx_demand.specs.Demand.{saturating_total}
use Rattle.rsx_demand.specs.declared.TheConstants.{UNBOUNDED}
use Rattle.rsx_tck.specs.Explained.{IsExplainedText}
use Rattle.rsx_tck.specs.Report.{IsReportText}
use Rattle.rsx_model.specs.declared.check.BadExpr.{BadExpr}
use Rattle.rsx_model.specs.declared.check.BadExpr.TheVariants.{Depth, Nodes, Inputs, Number, Chain, Hub, Length}
use Rattle.rsx_script.specs.Commands.{expression_of_line}
use Rattle.rsx_drive.specs.declared.judge.InputJudge.{InputJudge}
use Rattle.rsx_drive.specs.declared.judge.Style.{Style}
use Rattle.rsx_drive.specs.declared.judge.Style.TheVariants.{Plain, Explained}

-- a line that is empty or spaces alone
abbrev pub IsBlank : List ℕ → Type 0
IsBlank line = position is_written line ≡ None

-- whether this is the word `trace`
abbrev pub is_trace : Written → Bool
is_trace written.opening = false
is_trace written.closing = false
is_trace (written.text word) = bytes_eq word (codes "trace")
is_trace written.strange = false
is_trace written.nothing = false

abbrev pub is_trace_next : Result ((ℕ × Written) × Left) LineRefusal → Bool
is_trace_next (Ok next) = is_trace next.0.1
is_trace_next (Err e) = false

-- whether the first word of a line is `trace`
abbrev pub begins_trace : List ℕ → Bool
begins_trace line = is_trace_next (next_at (line_of line))

-- the number of the line behind so many, counted from 1; at most 2^63-1
abbrev pub number_behind : ℕ → ℕ
number_behind count = saturating_total count 1

-- what begins an answer that explains: what is answered, and the number of its first line
abbrev pub title_text : List ℕ → ℕ → List ℕ
title_text what number = what ++ (codes " at line " ++ (decimal number ++ codes ": "))

-- why an expression isn't run, in plain words
abbrev pub reason_text : BadExpr → List ℕ
reason_text Depth = codes "it is deeper than 32 nodes"
reason_text Nodes = codes "it has more than 256 nodes"
reason_text Inputs = codes "an operator has more than 16 inputs"
reason_text Number = codes "a number is out of its limit"
reason_text Chain = codes "a chain has more than 8 operators, or one with a number out of its limit"
reason_text Hub = codes "it reads a hub, and none is there"
reason_text Length = codes "a list has more than 1024 items"

-- that an expression isn't run; explained, why
abbrev pub refused_text : Style → ℕ → BadExpr → List ℕ
refused_text Plain number k = codes "refused M1" ++ 10 ∷ []
refused_text Explained number k = title_text (codes "expression") number ++ (codes "refused M1, " ++ (reason_text k ++ codes "\n"))

-- a trace whose first line has this number was answered by this text: its report; explained, the one that explains itself
abbrev pub IsTraceAnswer : Style → ℕ → List Stamped → List ℕ → Type 0
IsTraceAnswer Plain number events text = IsReportText events text
IsTraceAnswer Explained number events text = (report : List ℕ) × IsExplainedText number events report × (text ≡ title_text (codes "trace") number ++ report)

-- by which text the expression is answered that a line is, which has this number
abbrev pub ExpressionAnswers : Type 1
ExpressionAnswers = Style → ℕ → List ℕ → List ℕ → Type 0

-- A part of an input with its answer, where its first line has this number: a blank line, which has none, an expression, or the
-- lines of a trace, with its report.
abbrev pub IsPart : ExpressionAnswers → Style → ℕ → List (List ℕ) → List ℕ → Type 0
IsPart expressions style number part answer =
    ((line : List ℕ) × IsBlank line × (part ≡ line ∷ []) × (answer ≡ []))
    ⊎ (((line : List ℕ) × expressions style number line answer × (part ≡ line ∷ []))
    ⊎ ((events : List Stamped) × AreTrace part events × IsTraceAnswer style number events answer))

-- each of these parts, which stand behind so many lines, has its answer
abbrev pub AreParts : ExpressionAnswers → Style → ℕ → List (List (List ℕ) × List ℕ) → Type 0
AreParts expressions style before [] = ⊤
AreParts expressions style before (p ∷ parts) = IsPart expressions style (number_behind before) p.0 p.1 × AreParts expressions style (before + length p.0) parts

-- These lines are parts, one after the other, and the text is their answers.
pub record AreJudgedBy (expressions : ExpressionAnswers) (style : Style) (lines : List (List ℕ)) (text : List ℕ) : Type 0 where
  pub parts : List (List (List ℕ) × List ℕ)
  pub answered : AreParts expressions style 0 parts
  pub whole : lines ≡ flat_map (λ p. p.0) parts
  pub answers : text ≡ flat_map (λ p. p.1) parts

-- A line that isn't in a trace can't be read: it begins with the word `trace`, and no trace goes on so, first at this column;
-- or it doesn't, it isn't blank, and it is no expression, for this reason.
abbrev pub IsBadFirst : List ℕ → LineRefusal → Type 0
IsBadFirst line refusal =
    ((begins_trace line ≡ true) × (column : ℕ) × (refusal ≡ Syntax column) × IsWrongLast (line ∷ []) column)
    ⊎ ((begins_trace line ≡ false) × ¬ IsBlank line × (expression_of_line line ≡ Err refusal))

-- A line can't be read behind the first lines of a trace, or none.
abbrev pub IsBadBehind : List (List ℕ) → List ℕ → LineRefusal → Type 0
IsBadBehind [] line refusal = IsBadFirst line refusal
IsBadBehind (first ∷ opening) line refusal = (column : ℕ) × (refusal ≡ Syntax column) × IsWrongLast ((first ∷ opening) ++ line ∷ []) column

-- Behind the first lines of a trace, or none, what follows can't be read: a line is longer than 4,096 bytes, or is wrong there;
-- or the lines end before the trace does, which is wrong at column 1 of the line after the last.
abbrev pub IsBadNext : List (List ℕ) → List (List ℕ) → LineRefusal → Type 0
IsBadNext opening [] refusal = (refusal ≡ Syntax 1) × (0 < length opening) × LacksEnd opening
IsBadNext opening (line ∷ others) refusal = ((refusal ≡ TooLong) × (4096 < length line)) ⊎ IsBadBehind opening line refusal

-- After these lines, which were answered by this text, the others can't be read, for this reason, or memory is wanted.
pub record IsRefusedBy (expressions : ExpressionAnswers) (style : Style) (lines : List (List ℕ)) (text : List ℕ) (others : List (List ℕ)) (refusal : LineRefusal) : Type 0 where
  pub done : List (List ℕ)
  pub opening : List (List ℕ)
  pub split : lines ≡ done ++ opening
  pub judged : AreJudgedBy expressions style done text
  pub bad : (refusal ≡ NoMemory) ⊎ IsBadNext opening others refusal

-- what a reader has taken of a trace whose `end` hasn't come; nothing, where there is no reader
abbrev pub IsOpen : Option TraceReader → List (List ℕ) → Type 0
IsOpen None opening = opening ≡ []
IsOpen (Some reader) opening = HasTaken reader opening

-- the first line of a trace whose `end` hasn't come, behind these lines, has this number
abbrev pub IsBegunAt : Option TraceReader → ℕ → List (List ℕ) → Type 0
IsBegunAt None first done = ⊤
IsBegunAt (Some reader) first done = first ≡ number_behind (length done)

-- the lines so far were answered by this text
pub record StandsFor {E : Type 0} (expressions : ExpressionAnswers) (style : Style) (judge : InputJudge E) (lines : List (List ℕ)) (text : List ℕ) : Type 0 where
  pub styled : judge.style ≡ style
  pub counted : judge.lines ≡ min UNBOUNDED (length lines)
  pub done : List (List ℕ)
  pub opening : List (List ℕ)
  pub split : lines ≡ done ++ opening
  pub judged : AreJudgedBy expressions style done text
  pub taken : IsOpen judge.reader opening
  pub begun : IsBegunAt judge.reader judge.first done

-- an input in the middle of the trace that the reader has begun
abbrev pub judging : {E : Type 0} → InputJudge E → TraceReader → InputJudge E
judging judge reader = record judge { reader = Some reader }

-- why a line of a trace couldn't be read, as a refusal of a line
abbrev pub refusal_of : BadLine → LineRefusal
refusal_of (At column) = Syntax column
refusal_of bad.NoMemory = NoMemory
