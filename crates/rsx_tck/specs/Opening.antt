-- A trace of which the first lines are known.
use Rattle.std.specs.Prelude.{◌≡◌, ℕ, ◌+◌, Bool, List, ◌∷◌, length}
use Rattle.rsx_tck.specs.declared.event.Stamped.{Stamped}
use Rattle.rsx_tck.specs.declared.reader.Progress.{Progress}
use Rattle.rsx_tck.specs.declared.reader.Progress.TheVariants.{Open, Ended}
use Rattle.rsx_tck.specs.declared.reader.TraceReader.{TraceReader}
use Rattle.rsx_tck.specs.declared.reader.BadLine.{BadLine}
use Rattle.rsx_tck.specs.declared.reader.BadLine.TheVariants.{At, NoMemory}
use Rattle.rsx_tck.specs.Grammar.{AreLines, AreTrace, first_text}
use Rattle.rsx_tck.specs.FirstWrong.{AreSomeTrace, IsWrongPlace}

-- These lines begin a trace, and its events so far are these: the first line says the format, and then comes a line for
-- each event.
abbrev pub AreOpening : List (List ℕ) → Bool → List Stamped → Type 0
AreOpening parts stamped events = (body : List (List ℕ)) × (parts ≡ first_text stamped ∷ body) × AreLines stamped body events

-- a reader has taken in these lines, and `end` isn't among them
abbrev pub HasTaken : TraceReader → List (List ℕ) → Type 0
HasTaken reader parts = AreOpening parts reader.stamped reader.events.items

-- where a reader stands after these lines: in the trace, or behind its `end`
abbrev pub HasCome : Progress → TraceReader → List (List ℕ) → Type 0
HasCome Open reader parts = HasTaken reader parts
HasCome Ended reader parts = AreTrace parts reader.events.items

-- the last of these lines is the first wrong one, and its first wrong word stands at this column
abbrev pub IsWrongLast : List (List ℕ) → ℕ → Type 0
IsWrongLast parts column = IsWrongPlace AreSomeTrace parts (length parts, column)

-- a refusal of the last of these lines, want of memory aside
abbrev pub NamesWrongLast : List (List ℕ) → BadLine → Type 0
NamesWrongLast parts (At column) = IsWrongLast parts column
NamesWrongLast parts NoMemory = Unit {0}

-- these lines begin a trace and lack its `end`, which is wrong at column 1 of the line after the last
abbrev pub LacksEnd : List (List ℕ) → Type 0
LacksEnd parts = IsWrongPlace AreSomeTrace parts (length parts + 1, 1)
