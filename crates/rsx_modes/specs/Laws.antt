-- The laws of what answers the lines of a script.
use Rattle.std.specs.Prelude.{◌≡◌, ℕ, ◌+◌, ◌<◌, Bool, List, [], ◌∷◌, length, Err, if◌then◌else◌}
use Rattle.std.proofs.Common.{ap, refl, inl, inr}
use Rattle.std.proofs.lemmas.Bool.{lt-ltb}
use Rattle.rsx_script.specs.Reading.{line_of}
use Rattle.rsx_script.specs.declared.words.LineRefusal.{LineRefusal}
use Rattle.rsx_script.specs.declared.words.LineRefusal.TheVariants.{TooLong, NoMemory}
use Rattle.rsx_script.specs.Commands.{line_at, meaning_of_line}
use Rattle.rsx_session.specs.Sessions.{place_of}
use Rattle.rsx_session.specs.declared.session.Session.{Session}
use Rattle.rsx_session.specs.declared.session.View.{View}
use Rattle.rsx_modes.specs.Scripts.{HasAnswered, IsBadFirst, IsScript, IsScriptStopped}

-- what was answered so far is a script
pub script : (view : View) (session : Session) (lines : List (List ℕ)) (text : List ℕ) → HasAnswered view session lines text → IsScript view lines text
script view session lines text s = record { last = place_of session s.history; answered = s.answered; stands = s.stands.graph }

pub stopped : (view : View) (session : Session) (lines : List (List ℕ)) (text : List ℕ) (others : List (List ℕ)) (refusal : LineRefusal) → HasAnswered view session lines text → IsBadFirst others refusal → IsScriptStopped view lines text others refusal
stopped view session lines text others refusal s bad = record { done = script view session lines text s; bad = bad }

long : (line : List ℕ) → 4096 < length line → meaning_of_line line ≡ Err TooLong
unfolding meaning_of_line
long line lt = ap (λ (b : Bool). if b then Err TooLong else line_at (length line + 1) (line_of line)) (lt-ltb 4096 (length line) lt)

pub line_too_long : (view : View) (session : Session) (lines : List (List ℕ)) (text line : List ℕ) (others : List (List ℕ)) → 4096 < length line → HasAnswered view session lines text → IsScriptStopped view lines text (line ∷ others) TooLong
line_too_long view session lines text line others lt s = stopped view session lines text (line ∷ others) TooLong s (inr (long line lt))

wanted : (others : List (List ℕ)) → IsBadFirst others NoMemory
wanted [] = refl
wanted (line ∷ others) = inl refl

pub memory_wanted : (view : View) (session : Session) (lines : List (List ℕ)) (text : List ℕ) (others : List (List ℕ)) → HasAnswered view session lines text → IsScriptStopped view lines text others NoMemory
memory_wanted view session lines text others s = stopped view session lines text others NoMemory s (wanted others)

pub memory_wanted_last : (view : View) (lines : List (List ℕ)) (text : List ℕ) → IsScript view lines text → IsScriptStopped view lines text [] NoMemory
memory_wanted_last view lines text done = record { done = done; bad = refl }
