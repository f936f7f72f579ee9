-- Reading a trace from left to right, with the first wrong word that is met.
use Rattle.std.specs.Prelude.{ℕ, ◌+◌, ◌-◌, ◌^◌, Bool, true, false, ◌&&◌, ◌==◌, if◌then◌else◌, List, [], ◌∷◌, length, drop, nat_le, nat_lt, ℤ, pos, neg_ℤ, Option, Some, None, Result, Ok, Err, codes}
use Rattle.std.specs.List.{before_first, position_or_len}
use Rattle.std.specs.Str.{bytes_eq, all_ascii_digits}
use Rattle.std.specs.Str.Parse.{digits_value}
use Rattle.rsx_types.specs.declared.signal.Cause.{Cause}
use Rattle.rsx_types.specs.declared.signal.Cause.TheVariants.{User, Function, NonPositiveRequest}
use Rattle.rsx_tck.specs.declared.event.Event.{Event}
use Rattle.rsx_tck.specs.declared.event.Event.TheVariants as event
use Rattle.rsx_tck.specs.declared.event.Stamped.{Stamped}
use Rattle.rsx_tck.specs.declared.line.Kind.{Kind}
use Rattle.rsx_tck.specs.declared.line.Kind.TheVariants as kind
use Rattle.rsx_tck.specs.declared.line.Line.{Line}
use Rattle.rsx_tck.specs.declared.line.Line.TheVariants as line
use Rattle.rsx_tck.specs.Texts.{lines}

infixl 10 ◌>>=◌
abbrev pub ◌>>=◌ : {A B W : Type 0} → Result A W → (A → Result B W) → Result B W
(Ok x) >>= f = f x
(Err w) >>= f = Err w

-- Within a line a reader stands before a word. What it reads is a value and what is left of the line from the next
-- word on; where the word is wrong, the answer is how many bytes are left from it on.

-- what is left from the next word on: a space stands before it; a space that ends the line is itself the next word
abbrev pub behind : List ℕ → List ℕ
behind [] = []
behind (space ∷ []) = space ∷ []
behind (space ∷ b ∷ bytes) = b ∷ bytes

-- the word up to the next space or the line's end, which is wrong where it is empty: it is missing, or a space stands there
unfoldable pub word_at : List ℕ → Result (List ℕ × List ℕ) ℕ
word_at bytes = let n = position_or_len (λ b. b == 32) bytes in
    if n == 0 then Err (length bytes) else Ok (before_first (λ b. b == 32) bytes, behind (drop n bytes))

-- the value of the word that stands before these bytes, where it has one
abbrev pub valued : {A : Type 0} → List ℕ → Option A → List ℕ → Result (A × List ℕ) ℕ
valued bytes None rest = Err (length bytes)
valued bytes (Some x) rest = Ok (x, rest)

-- the line has no word more
unfoldable pub ends : {A : Type 0} → List ℕ → A → Result A ℕ
ends [] x = Ok x
ends (b ∷ bytes) x = Err (length (b ∷ bytes))

-- the number that a word is: digits alone, with leading zeros or without, up to a greatest number
unfoldable pub number_of : ℕ → List ℕ → Option ℕ
number_of most text = if nat_lt 0 (length text) && all_ascii_digits text && nat_le (digits_value 10 text) most then Some (digits_value 10 text) else None

abbrev pub option_map_to : {A B : Type 0} → (A → B) → Option A → Option B
option_map_to f None = None
option_map_to f (Some x) = Some (f x)

-- the same of a type with a sign, where `-` may stand before the digits
unfoldable pub signed_of : List ℕ → Option ℤ
signed_of [] = None
signed_of (b ∷ text) = if b == 45 then option_map_to (λ n. neg_ℤ (pos n)) (number_of (2 ^ 63) text) else option_map_to pos (number_of (2 ^ 63 - 1) (b ∷ text))

unfoldable pub number_at : ℕ → List ℕ → Result (ℕ × List ℕ) ℕ
number_at most bytes = do
  word ← word_at bytes
  valued bytes (number_of most word.0) word.1

unfoldable pub signed_at : List ℕ → Result (ℤ × List ℕ) ℕ
signed_at bytes = do
  word ← word_at bytes
  valued bytes (signed_of word.0) word.1

-- the first word of an event
abbrev pub kind_of : List ℕ → Option Kind
kind_of text =
    if bytes_eq text (codes "subscribe") then Some kind.Subscribe else
    (if bytes_eq text (codes "on-subscribe") then Some kind.OnSubscribe else
    (if bytes_eq text (codes "next") then Some kind.Next else
    (if bytes_eq text (codes "complete") then Some kind.Complete else
    (if bytes_eq text (codes "error") then Some kind.Error else
    (if bytes_eq text (codes "exit") then Some kind.Exit else
    (if bytes_eq text (codes "request") then Some kind.Request else
    (if bytes_eq text (codes "cancel") then Some kind.Cancel else
    (if bytes_eq text (codes "cancel-new") then Some kind.CancelNew else None))))))))

-- why a stream failed, in its one or two words
unfoldable pub cause_at : List ℕ → Result (Cause × List ℕ) ℕ
cause_at bytes = do
  word ← word_at bytes
  if bytes_eq word.0 (codes "bad-request") then Ok (NonPositiveRequest, word.1) else
      (if bytes_eq word.0 (codes "user") then (number_at (2 ^ 32 - 1) word.1 >>= λ n. Ok (User n.0, n.1)) else
      (if bytes_eq word.0 (codes "function") then (number_at (2 ^ 32 - 1) word.1 >>= λ n. Ok (Function n.0, n.1)) else Err (length bytes)))

-- what stands behind the number of the subscriber, up to the line's end
unfoldable pub tail_of : Kind → ℕ → List ℕ → Result Event ℕ
tail_of kind.Subscribe s bytes = ends bytes (event.Subscribe s)
tail_of kind.OnSubscribe s bytes = ends bytes (event.OnSubscribe s)
tail_of kind.Next s bytes = ends bytes (event.Next s)
tail_of kind.Complete s bytes = ends bytes (event.Complete s)
tail_of kind.Error s bytes = do
  cause ← cause_at bytes
  ends cause.1 (event.Error s cause.0)
tail_of kind.Exit s bytes = ends bytes (event.Exit s)
tail_of kind.Request s bytes = do
  n ← signed_at bytes
  ends n.1 (event.Request s n.0)
tail_of kind.Cancel s bytes = ends bytes (event.Cancel s)
tail_of kind.CancelNew s bytes = ends bytes (event.CancelNew s)

-- an event, up to the line's end
unfoldable pub event_at : List ℕ → Result Event ℕ
event_at bytes = do
  word ← word_at bytes
  kind ← valued bytes (kind_of word.0) word.1
  s ← number_at (2 ^ 32 - 1) kind.1
  tail_of kind.0 s.0 s.1

-- an event, behind the number of its worker where the trace has those
unfoldable pub stamped_at : Bool → List ℕ → Result Stamped ℕ
stamped_at false bytes = do
  e ← event_at bytes
  Ok (record { worker = 0; event = e })
stamped_at true bytes = do
  worker ← number_at 15 bytes
  e ← event_at worker.1
  Ok (record { worker = worker.0; event = e })

-- a line of a trace behind the first
unfoldable pub line_at : Bool → List ℕ → Result Line ℕ
line_at stamped bytes = do
  word ← word_at bytes
  if bytes_eq word.0 (codes "end") then ends word.1 line.End else (stamped_at stamped bytes >>= λ e. Ok (line.Event e))

-- the first line, and whether each event has its worker's number: `trace 1` or `trace 2`
unfoldable pub first_at : List ℕ → Result Bool ℕ
first_at bytes = do
  word ← word_at bytes
  if bytes_eq word.0 (codes "trace") then (word_at word.1 >>= λ version.
      (if bytes_eq version.0 (codes "1") then ends version.1 false else
      (if bytes_eq version.0 (codes "2") then ends version.1 true else Err (length word.1)))) else Err (length bytes)

-- what was read of a line, or the line's number and the column of its wrong word; columns count bytes from 1
abbrev pub at_line : {A : Type 0} → ℕ → List ℕ → Result A ℕ → Result A (ℕ × ℕ)
at_line number line (Ok x) = Ok x
at_line number line (Err left) = Err (number, length line - left + 1)

-- `end` is the last line
abbrev pub nothing_more : ℕ → List (List ℕ) → Result (List Stamped) (ℕ × ℕ)
nothing_more number [] = Ok []
nothing_more number (line ∷ others) = Err (number, 1)

-- The events of the lines from the one with this number on, up to `end`. Where the lines end before that, the place
-- is the first column of the line after the last.
abbrev pub line_then : Line → Result (List Stamped) (ℕ × ℕ) → Result (List Stamped) (ℕ × ℕ) → Result (List Stamped) (ℕ × ℕ)
line_then line.End at_end at_event = at_end
line_then (line.Event e) at_end at_event = at_event >>= λ events. Ok (e ∷ events)

unfoldable pub events_of : ℕ → Bool → List (List ℕ) → Result (List Stamped) (ℕ × ℕ)
events_of number stamped [] = Err (number, 1)
events_of number stamped (line ∷ others) =
    at_line number line (line_at stamped line) >>= λ read. line_then read (nothing_more (number + 1) others) (events_of (number + 1) stamped others)

abbrev pub trace_of_lines : List (List ℕ) → Result (List Stamped) (ℕ × ℕ)
trace_of_lines [] = Err (1, 1)
trace_of_lines (line ∷ others) = at_line 1 line (first_at line) >>= λ stamped. events_of 2 stamped others

-- the events of a trace, or the line and the column of its first wrong word
unfoldable pub trace_of : List ℕ → Result (List Stamped) (ℕ × ℕ)
trace_of text = trace_of_lines (lines text)
