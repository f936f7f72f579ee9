use Rattle.std.proofs.Common.{◌≡◌, ℕ, List, Result, Err, subst, sym}
use Rattle.rsx_session.specs.Prelude.{Answer, IsLineOf, Trouble, answer_text}
use Rattle.rsx_script.specs.declared.print.Answer.TheVariants as answer
use Rattle.rsx_session.proofs.Lines.{line_of}
use Rattle.rsx_session.proofs.session.write.Goals as goal

pub returns-in-Ok-clause-grows : goal.returns-in-Ok-clause-grows
returns-in-Ok-clause-grows c =
    let P : Result Answer Trouble → Type 0 = λ d. (text : List ℕ) → text ≡ answer_text c.in-Ok.answer → IsLineOf d text in
    line_of c.args.done c.in-Ok.answer _ _ c.add_to.result (subst P (sym c.in-Ok.is) (λ text e. e)) c.add_to.ensures.grows

pub returns-in-Refused-clause-grows : goal.returns-in-Refused-clause-grows
returns-in-Refused-clause-grows c =
    let name = c.in-Refused.name in
    let P : Result Answer Trouble → Type 0 = λ d. (text : List ℕ) → text ≡ answer_text (answer.Refused name) → IsLineOf d text in
    let Q : Trouble → Type 0 = λ t. P (Err t) in
    line_of c.args.done (answer.Refused name) _ _ c.add_to-in-Refused.result (subst P (sym c.in-Err.is) (subst Q (sym c.in-Refused.is) (λ text e. e))) c.add_to-in-Refused.ensures.grows
