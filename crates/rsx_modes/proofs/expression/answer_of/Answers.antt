use Rattle.std.proofs.Common.{inl, inr}
use Rattle.std.proofs.lemmas.Result.{IfOk-weaker}
use Rattle.rsx_modes.proofs.expression.answer_of.Goals as goal

pub returns-in-Ok : goal.returns-in-Ok
returns-in-Ok c =
    let verified = c.in-Ok.ensures in
    IfOk-weaker c.runs_text.result _ _ (λ text e. inl (record { admitted = verified.admitted; lines = c.in-Ok.lines; verified = verified.verified; unbroken = verified.unbroken; printed = e })) c.runs_text.ensures

pub returns-in-Err-BadExpr : goal.returns-in-Err-BadExpr
returns-in-Err-BadExpr c =
    IfOk-weaker c.refusal_text.result _ _ (λ text e. inr (c.in-Err-BadExpr.kind, rw c.in-Err-BadExpr.field-0-is at c.in-Err-BadExpr.ensures.err, e)) c.refusal_text.ensures
