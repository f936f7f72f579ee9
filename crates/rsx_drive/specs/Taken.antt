-- Where a run stands in its input.
use Rattle.std.specs.Prelude.{◌≡◌, ℕ, ◌+◌, ◌==◌, List, ◌++◌, length}
use Rattle.std.specs.List.{position_or_len}
use Rattle.std.specs.String.{string_bytes}
use Rattle.rsx_script.specs.declared.fault.AppFault.{AppFault}
use Rattle.rsx_script.specs.declared.fault.AppFault.TheVariants.{Line, Memory}
use Rattle.rsx_script.specs.declared.words.LineRefusal.{LineRefusal}
use Rattle.rsx_script.specs.declared.words.LineRefusal.TheVariants.{Syntax, UnknownName, TooLong, NoMemory}
use Rattle.rsx_tck.specs.Texts.{lines}
use Rattle.rsx_drive.specs.declared.state.Run.{Run}

-- what answers lines, as far as it stands for them
abbrev pub Stands : Type 0 → Type 1
Stands S = S → List (List ℕ) → List ℕ → Type 0

-- no newline stands in it
abbrev pub IsInner : List ℕ → Type 0
IsInner bytes = position_or_len (λ b. b == 10) bytes ≡ length bytes

-- Of the bytes taken so far, some lines are whole and were answered, by what was written and what waits to be; then comes
-- the beginning of the line with this number.
pub record IsAt {S : Type 0} (stands : Stands S) (state : S) (line : List ℕ) (number : ℕ) (out taken written : List ℕ) : Type 0 where
  pub before : List (List ℕ)
  pub split : (more : List ℕ) → lines (taken ++ more) ≡ before ++ lines (line ++ more)
  pub inner : IsInner line
  pub counted : number ≡ length before + 1
  pub answered : stands state before (written ++ out)

-- a run has taken in these bytes and written this text
abbrev pub HasTaken : {A : Type 0} → Stands A → Run A → (taken written : List ℕ) → Type 0
HasTaken stands run taken written = IsAt stands run.answers run.line.items run.number (string_bytes run.out) taken written

-- the fault of the line with this number
abbrev pub fault_of : ℕ → LineRefusal → AppFault
fault_of number (Syntax column) = Line number (Syntax column)
fault_of number (UnknownName column) = Line number (UnknownName column)
fault_of number TooLong = Line number TooLong
fault_of number NoMemory = Memory
