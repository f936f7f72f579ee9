-- The exit status and the line of what ends a run.
use Rattle.std.specs.Prelude.{ℕ, ◌≢◌, ◌<◌, ⊤, List, ◌++◌, codes}
use Rattle.std.specs.Fmt.{decimal}
use Rattle.rsx_script.specs.declared.fault.AppFault.{AppFault}
use Rattle.rsx_script.specs.declared.fault.AppFault.TheVariants.{Line, Io, Memory}
use Rattle.rsx_script.specs.declared.words.LineRefusal.TheVariants.{NoMemory}
use Rattle.rsx_script.specs.Texts.{refusal_text}

-- 1 for a line that can't be read, 3 for a read or a write that failed, 4 for want of memory
abbrev pub status_of : AppFault → ℕ
status_of (Line number refusal) = 1
status_of Io = 3
status_of Memory = 4

-- the line for standard error
abbrev pub fault_text : AppFault → List ℕ
fault_text (Line number refusal) = codes "rsx: line " ++ decimal number ++ codes ": " ++ refusal_text refusal
fault_text Io = codes "rsx: read or write fault"
fault_text Memory = codes "rsx: out of memory"

-- what a run ends with: lines are counted from 1, and want of memory is no fault of a line
abbrev pub IsRunFault : AppFault → Type 0
IsRunFault (Line number refusal) = (0 < number) × (refusal ≢ NoMemory)
IsRunFault Io = ⊤
IsRunFault Memory = ⊤
