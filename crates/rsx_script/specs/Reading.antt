-- Reading a line word by word from the left. The first word that can't stand where it does ends it.
use Rattle.std.specs.Prelude.{◌≡◌, ◌≢◌, ◌<◌, ◌≤◌, ℕ, ◌+◌, Bool, true, false, List, [], ◌∷◌, length, Option, Result, Ok, Err}
use Rattle.std.specs.Option.{ok_or}
use Rattle.rsx_script.specs.declared.words.LineRefusal.{LineRefusal}
use Rattle.rsx_script.specs.declared.words.LineRefusal.TheVariants.{Syntax, NoMemory}
use Rattle.rsx_script.specs.declared.words.Words.{Words}
use Rattle.rsx_script.specs.declared.words.Word.{Word}
use Rattle.rsx_script.specs.declared.words.Word.TheVariants.{Open, Close, Text, End}
use Rattle.rsx_script.specs.Words.{Written, opening, closing, text, strange, nothing, Placed, words_after}

-- what is left to read of a line: its words, and the column behind its last byte
pub record Left : Type 0 where
  pub words : List Placed
  pub end : ℕ

-- what these bytes leave to read, with which a line ends, where end is the column behind its last byte
abbrev pub left_at : ℕ → List ℕ → Left
left_at end bytes = record { words = words_after false end bytes; end = end }

-- all of a line
abbrev pub line_of : List ℕ → Left
line_of line = left_at (length line + 1) line

-- what a reader has left
unfoldable pub left : Words → Left
left words = left_at words.end words.rest.now

-- how many bytes it has left
unfoldable pub bytes_left : Words → ℕ
bytes_left words = length words.rest.now

-- a word took bytes of those that were left, unless there was none
abbrev pub TakesText : Word → ℕ → ℕ → Type 0
TakesText Open before after = after < before
TakesText Close before after = after < before
TakesText (Text word) before after = after < before
TakesText End before after = after ≤ before

-- one thing behind the other
infixl 10 ◌>>=◌
abbrev pub ◌>>=◌ : {A B : Type 0} → Result A LineRefusal → (A → Result B LineRefusal) → Result B LineRefusal
(Ok x) >>= f = f x
(Err e) >>= f = Err e

-- what a function returned, seen by view, is what reading gives
abbrev pub Gives : {X Y : Type 0} → (X → Y) → Result X LineRefusal → Result Y LineRefusal → Type 0
Gives view (Ok x) read = read ≡ Ok (view x)
Gives view (Err e) read = read ≡ Err e

-- the same, unless memory ran out
abbrev pub GivesInMemory : {X Y : Type 0} → (X → Y) → Result X LineRefusal → Result Y LineRefusal → Type 0
GivesInMemory view (Ok x) read = read ≡ Ok (view x)
GivesInMemory view (Err e) read = e ≢ NoMemory → read ≡ Err e

-- a word that stands at this column, with what follows it; a strange one is refused
abbrev pub word_in : ℕ → Written → Left → Result ((ℕ × Written) × Left) LineRefusal
word_in column opening rest = Ok ((column, opening), rest)
word_in column closing rest = Ok ((column, closing), rest)
word_in column (text word) rest = Ok ((column, text word), rest)
word_in column nothing rest = Ok ((column, nothing), rest)
word_in column strange rest = Err (Syntax column)

-- the next of these words; where there is none, its column is that behind the last byte
abbrev pub next_in : ℕ → List Placed → Result ((ℕ × Written) × Left) LineRefusal
next_in end [] = Ok ((end, nothing), record { words = []; end = end })
next_in end (p ∷ ps) = word_in p.column p.word (record { words = ps; end = end })

-- the next word
unfoldable pub next_at : Left → Result ((ℕ × Written) × Left) LineRefusal
next_at l = next_in l.end l.words

-- this word, which has to be `(`; one that has to be `)`; none; and one in the place of a name or a number
abbrev pub an_opening : (ℕ × Written) × Left → Result Left LineRefusal
an_opening ((column, opening), rest) = Ok rest
an_opening ((column, closing), rest) = Err (Syntax column)
an_opening ((column, text word), rest) = Err (Syntax column)
an_opening ((column, strange), rest) = Err (Syntax column)
an_opening ((column, nothing), rest) = Err (Syntax column)

abbrev pub a_closing : (ℕ × Written) × Left → Result Left LineRefusal
a_closing ((column, opening), rest) = Err (Syntax column)
a_closing ((column, closing), rest) = Ok rest
a_closing ((column, text word), rest) = Err (Syntax column)
a_closing ((column, strange), rest) = Err (Syntax column)
a_closing ((column, nothing), rest) = Err (Syntax column)

abbrev pub no_word : (ℕ × Written) × Left → Result Left LineRefusal
no_word ((column, opening), rest) = Err (Syntax column)
no_word ((column, closing), rest) = Err (Syntax column)
no_word ((column, text word), rest) = Err (Syntax column)
no_word ((column, strange), rest) = Err (Syntax column)
no_word ((column, nothing), rest) = Ok rest

abbrev pub a_text : (ℕ × Written) × Left → Result ((ℕ × List ℕ) × Left) LineRefusal
a_text ((column, opening), rest) = Err (Syntax column)
a_text ((column, closing), rest) = Err (Syntax column)
a_text ((column, text word), rest) = Ok ((column, word), rest)
a_text ((column, strange), rest) = Err (Syntax column)
a_text ((column, nothing), rest) = Err (Syntax column)

unfoldable pub opening_at : Left → Result Left LineRefusal
opening_at l = next_at l >>= an_opening

unfoldable pub closing_at : Left → Result Left LineRefusal
closing_at l = next_at l >>= a_closing

unfoldable pub end_at : Left → Result Left LineRefusal
end_at l = next_at l >>= no_word

unfoldable pub name_at : Left → Result ((ℕ × List ℕ) × Left) LineRefusal
name_at l = next_at l >>= a_text

-- a number, of the type whose texts are read so
unfoldable pub number_at : {A : Type 0} → (List ℕ → Option A) → Left → Result (A × Left) LineRefusal
number_at reads l = do
  word ← name_at l
  number ← ok_or (reads word.0.1) (Syntax word.0.0)
  Ok (number, word.1)

-- whether the next word is `(`
abbrev pub is_opening : Written → Bool
is_opening opening = true
is_opening closing = false
is_opening (text word) = false
is_opening strange = false
is_opening nothing = false

abbrev pub begins_with_opening : List Placed → Bool
begins_with_opening [] = false
begins_with_opening (p ∷ ps) = is_opening p.word

unfoldable pub is_opening_next : Left → Bool
is_opening_next l = begins_with_opening l.words
