-- The lines of a text, and the words of a line.
use Rattle.std.specs.Prelude.{ℕ, ◌==◌, List, [], ◌∷◌, codes}
use Rattle.std.specs.List.{slice_split, join_with_byte}

-- The lines of a text. The last may lack its newline.
abbrev pub last_line : List ℕ → List (List ℕ)
last_line [] = []
last_line (b ∷ bytes) = (b ∷ bytes) ∷ []

abbrev pub lines_of_parts : List (List ℕ) → List (List ℕ)
lines_of_parts [] = []
lines_of_parts (part ∷ []) = last_line part
lines_of_parts (part ∷ next ∷ parts) = part ∷ lines_of_parts (next ∷ parts)

unfoldable pub lines : List ℕ → List (List ℕ)
lines text = lines_of_parts (slice_split (λ b. b == 10) text)

-- The words of a line are the parts between its spaces. A part is empty where a space follows another, or begins or ends
-- the line. The empty line has no words.
abbrev pub words : List ℕ → List (List ℕ)
words [] = []
words (b ∷ bytes) = slice_split (λ c. c == 32) (b ∷ bytes)

-- The bytes of a line from these words on, where they are its last: none where no word is left. A space that ends the
-- line is itself its last word, which is empty.
abbrev pub bytes_from : List (List ℕ) → List ℕ
bytes_from [] = []
bytes_from ([] ∷ []) = codes " "
bytes_from (word ∷ others) = join_with_byte 32 (word ∷ others)
