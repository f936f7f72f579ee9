-- What a script is answered with, line by line.
use Rattle.std.specs.Prelude.{◌≡◌, ◌⊎◌, ℕ, List, [], ◌∷◌, ◌++◌, Some, None, Ok, Err}
use Rattle.rsx_demo.specs.Demo.{demo_meaning}
use Rattle.rsx_demo.specs.declared.val.Val.{Val}
use Rattle.rsx_session.specs.Rows.{History}
use Rattle.rsx_session.specs.Stands.{GraphStands}
use Rattle.rsx_script.specs.declared.words.LineRefusal.{LineRefusal}
use Rattle.rsx_script.specs.declared.words.LineRefusal.TheVariants.{NoMemory}
use Rattle.rsx_script.specs.Commands.{meaning_of_line}
use Rattle.rsx_script.specs.Orders.{order_of}
use Rattle.rsx_script.specs.declared.command.Command.{Command}
use Rattle.rsx_session.specs.Places.{IsAnswerTo, Place, begun}
use Rattle.rsx_session.specs.Sessions.{SessionStands, place_of}
use Rattle.rsx_session.specs.declared.session.Session.{Session}
use Rattle.rsx_session.specs.declared.session.View.{View}

-- The command that a line asks for was carried out where the script stood, and its answer stands on a line.
pub record IsCarriedOut (view : View) (line : List ℕ) (old : Place) (text : List ℕ) (new : Place) : Type 0 where
  pub command : Command
  pub asked : meaning_of_line line ≡ Ok (Some (order_of command))
  pub answer : List ℕ
  pub answers : IsAnswerTo view command old answer new
  pub printed : text ≡ answer ++ 10 ∷ []

-- a line was answered; one without words changes nothing, and has no answer
abbrev pub IsLineAnswered : View → List ℕ → Place → List ℕ → Place → Type 0
IsLineAnswered view line old text new = ((meaning_of_line line ≡ Ok None) × (text ≡ []) × (new ≡ old)) ⊎ IsCarriedOut view line old text new

-- each line was answered, one after the other, where the lines before it left the graph
abbrev pub AreAnswered : View → List (List ℕ) → Place → List ℕ → Place → Type 0
AreAnswered view [] old text new = (text ≡ []) × (new ≡ old)
AreAnswered view (line ∷ others) old text new =
    (first : List ℕ) × (mid : Place) × (rest : List ℕ) × IsLineAnswered view line old first mid × AreAnswered view others mid rest new × (text ≡ first ++ rest)

-- The lines of a script were answered by this text, from an empty graph on; the graph that they left stands for what has
-- happened to it.
pub record IsScript (view : View) (lines : List (List ℕ)) (text : List ℕ) : Type 0 where
  pub last : Place
  pub answered : AreAnswered view lines begun text last
  pub stands : GraphStands demo_meaning last.graph last.history

-- why a line has no answer: it can't be read, or memory is wanted
abbrev pub IsBadLine : List ℕ → LineRefusal → Type 0
IsBadLine line refusal = (refusal ≡ NoMemory) ⊎ (meaning_of_line line ≡ Err refusal)

-- the same of the first of these lines; memory may be wanted behind the last one too
abbrev pub IsBadFirst : List (List ℕ) → LineRefusal → Type 0
IsBadFirst [] refusal = refusal ≡ NoMemory
IsBadFirst (line ∷ others) refusal = IsBadLine line refusal

-- After these lines, which were answered by this text, the first of the others has no answer, for this reason.
pub record IsScriptStopped (view : View) (lines : List (List ℕ)) (text : List ℕ) (others : List (List ℕ)) (refusal : LineRefusal) : Type 0 where
  pub done : IsScript view lines text
  pub bad : IsBadFirst others refusal

-- A session that shows this has answered these lines by this text, and stands where they left the graph.
pub record HasAnswered (view : View) (session : Session) (lines : List (List ℕ)) (text : List ℕ) : Type 0 where
  pub history : History Val
  pub stands : SessionStands session history
  pub shows : session.view ≡ view
  pub answered : AreAnswered view lines begun text (place_of session history)
