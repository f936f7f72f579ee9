-- Inputs of expressions and traces, where an expression is answered by what its runs say of the rules.
use Rattle.std.specs.Prelude.{◌≡◌, ℕ, ◌⊎◌, List, ◌++◌, count_by, Some, None, Ok, codes}
use Rattle.rsx_tck.specs.Explained.{is_broken, is_held, summary_text}
use Rattle.rsx_tck.specs.declared.explain.Summary.{Summary}
use Rattle.rsx_demo.specs.Demo.{demo_meaning}
use Rattle.rsx_demo.specs.declared.val.Val.{Val}
use Rattle.rsx_model.specs.Check.{refusal as refusal_of_expression}
use Rattle.rsx_model.specs.declared.check.BadExpr.{BadExpr}
use Rattle.rsx_model.specs.declared.expr.Expr.{Expr}
use Rattle.rsx_script.specs.Commands.{expression_of_line}
use Rattle.rsx_script.specs.Orders.{tree_of}
use Rattle.rsx_verify.specs.declared.line.Line.{Line}
use Rattle.rsx_verify.specs.Reports.{AreUnbroken, AreVerified}
use Rattle.rsx_verify.specs.Texts.{lines_text}
use Rattle.rsx_drive.specs.Answered.{Refuses}
use Rattle.rsx_drive.specs.Judged.{AreJudgedBy, IsRefusedBy, refused_text, title_text}
use Rattle.rsx_drive.specs.declared.judge.Style.{Style}
use Rattle.rsx_drive.specs.declared.judge.Style.TheVariants.{Plain, Explained}

-- how many rules these lines on the runs of an expression find held, and how many they find broken
abbrev pub summary_of_runs : List Line → Summary
summary_of_runs lines = record { held = count_by (λ line. is_held line.verdict) lines; broken = count_by (λ line. is_broken line.verdict) lines }

-- the lines on the runs of an expression; explained, how many rules they find held and broken
abbrev pub verified_text : Style → ℕ → List Line → List ℕ
verified_text Plain number lines = lines_text lines
verified_text Explained number lines = title_text (codes "expression") number ++ summary_text (summary_of_runs lines)

-- The lines on the runs of an expression, none of which is broken.
pub record IsVerifiedText (style : Style) (number : ℕ) (e : Expr Val) (text : List ℕ) : Type 0 where
  pub admitted : refusal_of_expression 0 e ≡ None
  pub lines : List Line
  pub verified : AreVerified demo_meaning e lines
  pub unbroken : AreUnbroken lines
  pub printed : text ≡ verified_text style number lines

-- What answers an expression on the line with this number: the lines on its runs; where it goes past a limit or reads a hub, one
-- line that it is refused.
abbrev pub IsExpressionAnswer : Style → ℕ → Expr Val → List ℕ → Type 0
IsExpressionAnswer style number e text = IsVerifiedText style number e text ⊎ ((k : BadExpr) × (refusal_of_expression 0 e ≡ Some k) × (text ≡ refused_text style number k))

-- the expression that a line is was answered by this text
abbrev pub IsLineAnswer : Style → ℕ → List ℕ → List ℕ → Type 0
IsLineAnswer style number line text = (e : Expr Val) × (expression_of_line line ≡ Ok (tree_of e)) × IsExpressionAnswer style number e text

-- These lines are blank ones, expressions and traces, one after the other, and the text is their answers.
abbrev pub AreJudged : Style → List (List ℕ) → List ℕ → Type 0
AreJudged style = AreJudgedBy IsLineAnswer style

-- After these lines, which were answered by this text, the others can't be read, for this reason, or memory is wanted.
abbrev pub IsRefusedAfter : Style → Refuses
IsRefusedAfter style = IsRefusedBy IsLineAnswer style
