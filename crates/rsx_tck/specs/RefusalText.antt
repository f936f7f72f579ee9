-- What a refusal says.
use Rattle.std.specs.Prelude.{ℕ, List, ◌++◌, codes}
use Rattle.std.specs.Fmt.{decimal}
use Rattle.rsx_tck.specs.declared.refusal.TraceRefusal.{TraceRefusal}
use Rattle.rsx_tck.specs.declared.refusal.TraceRefusal.TheVariants.{BadTrace, NoMemory}

-- the place of the first wrong word, the line before the column
abbrev pub refusal_text : TraceRefusal → List ℕ
refusal_text (BadTrace line column) = codes "bad trace at line " ++ decimal line ++ codes ", column " ++ decimal column
refusal_text NoMemory = codes "out of memory"
