-- The words of a line, as its bytes, each with its column.
use Rattle.std.specs.Prelude.{◌≡◌, ◌<◌, slice_index, ℕ, ◌+◌, ◌-◌, Bool, true, false, ◌||◌, ◌==◌, not, List, [], ◌∷◌, length, drop, Option, Some, None, if◌then◌else◌}
use Rattle.std.specs.List.{before_first, position, position_or_len}
use Rattle.std.specs.Char.{is_ascii_graphic}
use Rattle.rsx_script.specs.declared.words.Word.{Word}
use Rattle.rsx_script.specs.declared.words.Word.TheVariants.{Open, Close, Text, End}

-- a byte that isn't the space
abbrev pub is_written : ℕ → Bool
is_written b = not (b == 32)

-- a space or a parenthesis, before which a word ends that is no parenthesis
abbrev pub is_separator : ℕ → Bool
is_separator b = b == 32 || (b == 40 || b == 41)

-- a byte that no word has
abbrev pub is_strange : ℕ → Bool
is_strange b = not (is_ascii_graphic b)

-- what is left of a line from the next word on
abbrev pub from_word : List ℕ → List ℕ
from_word bytes = drop (position_or_len is_written bytes) bytes

-- the column of the first of these bytes, with which a line ends, where end is the column behind its last byte
abbrev pub column_of : ℕ → List ℕ → ℕ
column_of end bytes = end - length bytes

-- a word as it is written: a parenthesis, the bytes of any other, a word with a byte that no word has, or none
pub data Written : Type 0 where
  opening : Written
  closing : Written
  text : List ℕ → Written
  strange : Written
  nothing : Written

-- a word and where it stands: the column of its first byte, or of its first strange byte
pub record Placed : Type 0 where
  pub column : ℕ
  pub word : Written

-- the word of these bytes, which begins at this column, by the place of its first strange byte
abbrev pub text_placed : ℕ → List ℕ → Option ℕ → Placed
text_placed column bytes None = record { column = column; word = text bytes }
text_placed column bytes (Some place) = record { column = column + place; word = strange }

-- the same, where the word is what stands before the first separator
abbrev pub text_from : ℕ → List ℕ → Placed
text_from end bytes = text_placed (column_of end bytes) (before_first is_separator bytes) (position is_strange (before_first is_separator bytes))

-- The words that begin in these bytes, with which a line ends. A parenthesis is a word, and any other word begins at a byte
-- that is no separator and doesn't stand inside a word, and goes up to the next separator. Whether the byte before these
-- belongs to such a word is said first.
unfoldable pub words_after : Bool → ℕ → List ℕ → List Placed
words_after inside end [] = []
words_after inside end (b ∷ bs) =
    if b == 32 then words_after false end bs
    else (if b == 40 then record { column = column_of end (b ∷ bs); word = opening } ∷ words_after false end bs
    else (if b == 41 then record { column = column_of end (b ∷ bs); word = closing } ∷ words_after false end bs
    else (if inside then words_after true end bs
    else (text_from end (b ∷ bs) ∷ words_after true end bs))))

-- the words of a line
abbrev pub words_of : List ℕ → List Placed
words_of line = words_after false (length line + 1) line

-- these bytes begin with a word that is no parenthesis
abbrev pub BeginsText : List ℕ → Type 0
BeginsText bytes = (0 < length bytes) × (is_separator (slice_index bytes 0) ≡ false)

-- a word that was read
abbrev pub written : Word → Written
written Open = opening
written Close = closing
written (Text word) = text word.now
written End = nothing
