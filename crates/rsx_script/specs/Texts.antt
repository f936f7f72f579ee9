-- Why a line can't be read, as text.
use Rattle.std.specs.Prelude.{ℕ, List, ◌++◌, codes}
use Rattle.std.specs.Fmt.{decimal}
use Rattle.rsx_script.specs.declared.words.LineRefusal.{LineRefusal}
use Rattle.rsx_script.specs.declared.words.LineRefusal.TheVariants.{Syntax, UnknownName, TooLong, NoMemory}

-- with the column of the word
abbrev pub refusal_text : LineRefusal → List ℕ
refusal_text (Syntax column) = codes "syntax at column " ++ decimal column
refusal_text (UnknownName column) = codes "unknown name at column " ++ decimal column
refusal_text TooLong = codes "longer than 4096 bytes"
refusal_text NoMemory = codes "out of memory"
