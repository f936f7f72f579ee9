-- What a script comes to with a further line.
use Rattle.std.proofs.Common.{◌≡◌, ℕ, List, [], ◌∷◌, ◌++◌, Some, None, Ok, refl, sym, ap, subst, ◌∙◌, append_assoc, inl, inr}
use Rattle.std.proofs.lemmas.List.{append-nil}
use Rattle.rsx_script.specs.Commands.{meaning_of_line}
use Rattle.rsx_script.specs.Orders.{order_of}
use Rattle.rsx_script.specs.declared.command.Command.{Command}
use Rattle.rsx_session.specs.Places.{IsAnswerTo, Place, begun}
use Rattle.rsx_session.specs.Sessions.{LeadsAll, place_of}
use Rattle.rsx_session.specs.declared.session.Session.{Session}
use Rattle.rsx_session.specs.declared.session.View.{View}
use Rattle.rsx_modes.specs.Scripts.{AreAnswered, HasAnswered, IsLineAnswered}

-- one line more, behind the others
more_answered : (view : View) (lines : List (List ℕ)) (line : List ℕ) (old mid new : Place) (text more : List ℕ) → AreAnswered view lines old text mid → IsLineAnswered view line mid more new → AreAnswered view (lines ++ line ∷ []) old (text ++ more) new
more_answered view [] line old mid new text more (none, same) is =
    let A : Place → Type 0 = λ place. IsLineAnswered view line place more new in
    (more, new, [], subst A same is, (refl, refl), ap (λ t. t ++ more) none ∙ sym (append-nil more))
more_answered view (first ∷ lines) line old mid new text more (answer, next, rest, here, others, all) is =
    (answer, next, rest ++ more, here, more_answered view lines line next mid new rest more others is, ap (λ t. t ++ more) all ∙ append_assoc answer rest more)

-- a line without words
pub blank_answered : (view : View) (session : Session) (line : List ℕ) (lines : List (List ℕ)) (text : List ℕ) → meaning_of_line line ≡ Ok None → HasAnswered view session lines text → HasAnswered view session (lines ++ line ∷ []) (text ++ [])
blank_answered view session line lines text blank s = record {
  history = s.history;
  stands = s.stands;
  shows = s.shows;
  answered = more_answered view lines line begun (place_of session s.history) (place_of session s.history) text [] s.answered (inl (blank, refl, refl));
}

-- a line whose command was carried out
pub line_answered : (view : View) (old new : Session) (command : Command) (line answer : List ℕ) (lines : List (List ℕ)) (text : List ℕ) → meaning_of_line line ≡ Ok (Some (order_of command)) → LeadsAll command old answer new
    → HasAnswered view old lines text → HasAnswered view new (lines ++ line ∷ []) (text ++ (answer ++ 10 ∷ []))
line_answered view old new command line answer lines text asked leads s =
    let led = leads s.history s.stands in
    let A : View → Type 0 = λ v. IsAnswerTo v command (place_of old s.history) answer (place_of new led.history) in
    record {
      history = led.history;
      stands = led.stands;
      shows = led.view ∙ s.shows;
      answered = more_answered view lines line begun (place_of old s.history) (place_of new led.history) text (answer ++ 10 ∷ []) s.answered
          (inr (record { command = command; asked = asked; answer = answer; answers = subst A s.shows led.answers; printed = refl }));
    }
