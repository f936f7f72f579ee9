-- Which answers a command can have.
use Rattle.std.specs.Prelude.{◌≡◌, ℕ, Bool, true, false, ◌||◌, List, [], ◌∷◌, ◌++◌, codes}
use Rattle.std.specs.Str.{bytes_eq}
use Rattle.rsx_script.specs.Answers.{IsTextOf}
use Rattle.rsx_script.specs.declared.command.Command.{Command}
use Rattle.rsx_script.specs.declared.command.Command.TheVariants as command
use Rattle.rsx_script.specs.declared.print.Answer.{Answer}
use Rattle.rsx_script.specs.declared.print.Answer.TheVariants.{Hub, Sub, Done, Idle, Budget, Shown, Value, Asked, Count, Joins, Choices, Equal, Different, Waits, FeedWaits, Drawn, Refused}
use Rattle.rsx_session.specs.declared.session.View.{View}
use Rattle.rsx_session.specs.declared.session.View.TheVariants.{Received, FromScratch}
use Rattle.rsx_session.specs.declared.session.Trouble.{Trouble}
use Rattle.rsx_session.specs.declared.session.Trouble.TheVariants as trouble

abbrev pub is_hub : Answer → Bool
is_hub (Hub _) = true
is_hub _ = false

abbrev pub is_sub : Answer → Bool
is_sub (Sub _) = true
is_sub _ = false

abbrev pub is_done : Answer → Bool
is_done Done = true
is_done _ = false

-- none is enabled, or the budget is used up
abbrev pub is_pumped : Answer → Bool
is_pumped Idle = true
is_pumped Budget = true
is_pumped _ = false

-- what was received, and the rest
abbrev pub is_received : Answer → Bool
is_received (Shown _) = true
is_received _ = false

-- the value of the slow evaluator
abbrev pub is_value : Answer → Bool
is_value (Value _) = true
is_value _ = false

-- what `show` answers
abbrev pub is_shown : View → Answer → Bool
is_shown Received a = is_received a
is_shown FromScratch a = is_value a

abbrev pub is_asked : Answer → Bool
is_asked (Asked _) = true
is_asked _ = false

abbrev pub is_count : Answer → Bool
is_count (Count _) = true
is_count _ = false

abbrev pub is_joins : Answer → Bool
is_joins (Joins _) = true
is_joins _ = false

abbrev pub is_choices : Answer → Bool
is_choices (Choices _) = true
is_choices _ = false

abbrev pub is_waits : Answer → Bool
is_waits (Waits _) = true
is_waits _ = false

abbrev pub is_feed_waits : Answer → Bool
is_feed_waits (FeedWaits _) = true
is_feed_waits _ = false

abbrev pub is_drawn : Answer → Bool
is_drawn (Drawn _) = true
is_drawn _ = false

abbrev pub is_compared : Answer → Bool
is_compared Equal = true
is_compared Different = true
is_compared _ = false

-- the answers to a command that is not refused
abbrev pub is_of : View → Command → Answer → Bool
is_of view (command.Hub kind capacity) a = is_hub a
is_of view (command.Feed kind capacity expr) a = is_hub a
is_of view (command.Emit hub number) a = is_done a
is_of view (command.Complete hub) a = is_done a
is_of view (command.Fail hub number) a = is_done a
is_of view (command.Subscribe expr) a = is_sub a
is_of view (command.Request sub count) a = is_done a
is_of view (command.Cancel sub) a = is_done a
is_of view (command.Pump budget) a = is_pumped a
is_of view (command.Pick sub node input) a = is_done a
is_of view (command.Show sub) a = is_shown view a
is_of view (command.Asked sub) a = is_asked a
is_of view (command.Count sub) a = is_count a
is_of view (command.Joins sub) a = is_joins a
is_of view (command.Choices sub) a = is_choices a
is_of view (command.Check sub) a = is_compared a
is_of view (command.Why sub) a = is_waits a
is_of view (command.WhyFeed hub) a = is_feed_waits a
is_of view (command.Draw sub) a = is_drawn a

-- the name of a refusal that a command can have: not that of want of memory, G8
abbrev pub is_name : List ℕ → Bool
is_name n = bytes_eq n (codes "G1") || (bytes_eq n (codes "G2") || (bytes_eq n (codes "G3") || (bytes_eq n (codes "G4") || (bytes_eq n (codes "G5") || (bytes_eq n (codes "G6") || (bytes_eq n (codes "G7") || (bytes_eq n (codes "M1") || bytes_eq n (codes "M2"))))))))

-- refused by a name
abbrev pub is_refused : Answer → Bool
is_refused (Refused name) = is_name name.now
is_refused _ = false

-- a command has no answer of its own, by such a name or for want of memory
abbrev pub IsTrouble : Trouble → Type 0
IsTrouble (trouble.Refused name) = is_name name.now ≡ true
IsTrouble trouble.Memory = Unit {0}

-- A text was extended by one line, an answer to the command.
pub record IsAnswered (view : View) (command : Command) (before after : List ℕ) : Type 0 where
  pub answer : Answer
  pub belongs : (is_of view command answer || is_refused answer) ≡ true
  pub text : List ℕ
  pub prints : IsTextOf answer text
  pub grows : after ≡ before ++ (text ++ 10 ∷ [])
