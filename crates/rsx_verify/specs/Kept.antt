-- Rules that a run keeps.
use Rattle.std.specs.Prelude.{ℕ, List, take}
use Rattle.rsx_tck.specs.declared.event.Stamped.{Stamped}
use Rattle.rsx_tck.specs.declared.rule.Rule.{Rule}
use Rattle.rsx_tck.specs.Verdicts.{AllKeep}

-- the trace keeps a rule: no number of its first events breaks it
abbrev pub IsKept : Rule → List Stamped → Type 0
IsKept r t = (j : ℕ) → AllKeep r (take j t)

-- it keeps each of the 43
abbrev pub AreKept : List Stamped → Type 0
AreKept t = (r : Rule) → IsKept r t
