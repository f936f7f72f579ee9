-- What a line may go on with.
use Rattle.std.specs.Prelude.{ℕ, Bool, false, nat_lt, List, ◌∷◌, ◌++◌}
use Rattle.rsx_script.specs.declared.words.LineRefusal.{LineRefusal}
use Rattle.rsx_script.specs.declared.words.LineRefusal.TheVariants.{Syntax, UnknownName, TooLong, NoMemory}

-- a refusal names a column behind this one
abbrev pub goes_past : ℕ → LineRefusal → Bool
goes_past column (Syntax at) = nat_lt column at
goes_past column (UnknownName at) = nat_lt column at
goes_past column TooLong = false
goes_past column NoMemory = false

-- a line that begins so and goes on with this word, behind a space
abbrev pub tried : List ℕ → List ℕ → List ℕ
tried begun word = begun ++ (32 ∷ word)
