-- Lemmas about the line of an answer.
use Rattle.std.proofs.Common.{◌≡◌, ℕ, ◌++◌, ◌∷◌, [], List, true, Result, Ok, Err, refl, subst, sym}
use Rattle.std.specs.Prelude.{IfErr, IfOk, OnOk}
use Rattle.std.proofs.lemmas.Bool.{or_left, or_right}
use Rattle.rsx_types.specs.declared.fault.NoMemory.{NoMemory}
use Rattle.rsx_session.specs.Prelude.{AllLead, Answer, GrowsByLine, IsAnswered, IsLineOf, IsLook, IsTextOf, IsTrouble, LeadsAll, OnText, Place, Says, Session, Trouble, answer_text, is_of, is_refused}
use Rattle.rsx_script.specs.declared.command.Command.{Command}
use Rattle.rsx_script.specs.declared.print.Answer.TheVariants as answer
use Rattle.rsx_session.specs.declared.session.Trouble.TheVariants as trouble
use Rattle.rsx_session.specs.declared.session.View.{View}

-- what was printed is the line of what was done
pub line_of : (done : Result Answer Trouble) (a : Answer) (before after : List ℕ) (r : Result (Unit {0}) NoMemory) → ((text : List ℕ) → text ≡ answer_text a → IsLineOf done text) → OnOk r ((text : List ℕ) × IsTextOf a text × (after ≡ before ++ (text ++ 10 ∷ []))) → OnOk r (GrowsByLine before after (IsLineOf done))
line_of done a before after (Ok u) k g = (g.0, g.2, k g.0 g.1)
line_of done a before after (Err e) k g = tt

-- its kind belongs to the command
pub answered : (done : Result Answer Trouble) (view : View) (command : Command) (before after : List ℕ) (r : Result (Unit {0}) NoMemory) → OnOk r (GrowsByLine before after (IsLineOf done)) → IfOk done (λ a. is_of view command a ≡ true) → IfErr done IsTrouble → OnOk r (IsAnswered view command before after)
answered (Ok a) view command before after (Ok u) g ok err = record { answer = a; belongs = or_left (is_of view command a) (is_refused a) ok; text = g.0; prints = g.2; grows = g.1 }
answered (Err (trouble.Refused name)) view command before after (Ok u) g ok err = record { answer = answer.Refused name; belongs = or_right (is_of view command (answer.Refused name)) (is_refused (answer.Refused name)) err; text = g.0; prints = g.2; grows = g.1 }
answered (Err trouble.Memory) view command before after (Ok u) g ok err = absurd g.2
answered done view command before after (Err e) g ok err = tt

-- it says what was done
pub told : (done : Result Answer Trouble) (command : Command) (old new : Session) (before after : List ℕ) (r : Result (Unit {0}) NoMemory) → OnOk r (GrowsByLine before after (IsLineOf done)) → OnText done (λ text. LeadsAll command old text new) → OnOk r (GrowsByLine before after (λ line. LeadsAll command old line new))
told (Ok a) command old new before after (Ok u) g leads = let L : List ℕ → Type 0 = λ text. LeadsAll command old text new in (g.0, g.1, subst L (sym g.2) leads)
told (Err (trouble.Refused name)) command old new before after (Ok u) g leads = let L : List ℕ → Type 0 = λ text. LeadsAll command old text new in (g.0, g.1, subst L (sym g.2) leads)
told (Err trouble.Memory) command old new before after (Ok u) g leads = absurd g.2
told done command old new before after (Err e) g leads = tt

-- a look changes nothing
pub looked : (s : Session) (done : Result Answer Trouble) (R : Place → List ℕ → Type 0) → Says s done R → OnText done (λ text. AllLead (λ before line after. IsLook before after (R before line)) s text s)
looked s (Ok a) R says = λ h k. record { history = h; stands = k; answers = (refl, says h k); view = refl }
looked s (Err (trouble.Refused name)) R says = λ h k. record { history = h; stands = k; answers = (refl, says h k); view = refl }
looked s (Err trouble.Memory) R says = tt
