-- What a function returned is what reading gives.
use Rattle.std.specs.Prelude.{◌≡◌, ℕ, ◌+◌, ◌-◌, length, List, Result, Ok, Err}
use Rattle.rsx_tck.specs.declared.line.Wrong.{Wrong}
use Rattle.rsx_tck.specs.declared.refusal.TraceRefusal.{TraceRefusal}
use Rattle.rsx_tck.specs.declared.refusal.TraceRefusal.TheVariants.{BadTrace, NoMemory}

-- within a line, the value seen by `view`
abbrev pub Gives : {X Y : Type 0} → (X → Y) → Result X Wrong → Result Y ℕ → Type 0
Gives view (Ok x) read = read ≡ Ok (view x)
Gives view (Err w) read = read ≡ Err w.left

-- of a trace, want of memory aside
abbrev pub Refuses : {A : Type 0} → TraceRefusal → Result A (ℕ × ℕ) → Type 0
Refuses (BadTrace line column) read = read ≡ Err (line, column)
Refuses NoMemory read = Unit {0}

abbrev pub GivesTrace : {X Y : Type 0} → (X → Y) → Result X TraceRefusal → Result Y (ℕ × ℕ) → Type 0
GivesTrace view (Ok x) read = read ≡ Ok (view x)
GivesTrace view (Err e) read = Refuses e read

-- the refusal of a wrong word of a line: the line's number and the word's column
abbrev pub IsPlace : TraceRefusal → ℕ → List ℕ → Wrong → Type 0
IsPlace refusal number line wrong = refusal ≡ BadTrace number (length line - wrong.left + 1)
