-- Commands, as they are written: a name, and what it wants behind it.
use Rattle.std.specs.Prelude.{ℕ, ◌+◌, ℤ, nat_lt, List, length, Option, Some, None, Result, Ok, Err, if◌then◌else◌, codes}
use Rattle.std.specs.Option.{ok_or}
use Rattle.std.specs.Str.{bytes_eq}
use Rattle.rsx_values.specs.Prelude.{HubKind, Multicast, Replay}
use Rattle.rsx_script.specs.declared.words.LineRefusal.{LineRefusal}
use Rattle.rsx_script.specs.declared.words.LineRefusal.TheVariants.{Syntax, UnknownName, TooLong}
use Rattle.rsx_values.specs.declared.limits.TheConstants.{MAIN}
use Rattle.rsx_script.specs.Numbers.{u32_of, u64_of, signed_of}
use Rattle.rsx_script.specs.Reading.{Left, line_of, ◌>>=◌, next_at, end_at, name_at, number_at}
use Rattle.rsx_script.specs.Words.{Written, opening, closing, text, strange, nothing}
use Rattle.rsx_script.specs.Expressions.{expression_at}
use Rattle.rsx_script.specs.Orders.{Tree, Order, make_hub, feed_hub, emit, complete, fail, subscribe, request, cancel, pump, pick, show, asked, count, joins, choices, check, why, why_feed, draw}

-- the number of a hub or of a subscription, alone
abbrev pub with_one : (ℕ → Order) → Left → Result (Order × Left) LineRefusal
with_one makes l = do
  n ← number_at u32_of l
  Ok (makes n.0, n.1)

-- such a number, and one of type i64 or u32
abbrev pub with_signed : (ℕ → ℤ → Order) → Left → Result (Order × Left) LineRefusal
with_signed makes l = do
  n ← number_at u32_of l
  value ← number_at signed_of n.1
  Ok (makes n.0 value.0, value.1)

abbrev pub with_two : (ℕ → ℕ → Order) → Left → Result (Order × Left) LineRefusal
with_two makes l = do
  n ← number_at u32_of l
  m ← number_at u32_of n.1
  Ok (makes n.0 m.0, m.1)

-- an input of a node: its number, or `m` for Main
abbrev pub input_of : List ℕ → Option ℕ
input_of word = if bytes_eq word (codes "m") then Some MAIN else u64_of word

unfoldable pub input_at : Left → Result (ℕ × Left) LineRefusal
input_at l = do
  word ← name_at l
  input ← ok_or (input_of word.0.1) (Syntax word.0.0)
  Ok (input, word.1)

-- a subscription, a node and an input
unfoldable pub pick_at : Left → Result (Order × Left) LineRefusal
pick_at l = do
  s ← number_at u32_of l
  node ← number_at u32_of s.1
  input ← input_at node.1
  Ok (pick s.0 node.0 input.0, input.1)

-- a subscription, or behind `feed` a hub
abbrev pub why_named : ℕ → List ℕ → Left → Result (Order × Left) LineRefusal
why_named column name l =
    if bytes_eq name (codes "feed") then with_one why_feed l
    else (ok_or (u32_of name) (Syntax column) >>= λ n. Ok (why n, l))

unfoldable pub why_at : Left → Result (Order × Left) LineRefusal
why_at l = do
  word ← name_at l
  why_named word.0.0 word.0.1 word.1

-- the kind of a hub, with the number of items that a `replay` keeps
abbrev pub kind_named : ℕ → List ℕ → Left → Result (HubKind × Left) LineRefusal
kind_named column name l =
    if bytes_eq name (codes "multicast") then Ok (Multicast, l)
    else (if bytes_eq name (codes "replay") then (number_at u64_of l >>= λ n. Ok (Replay n.0, n.1))
    else Err (UnknownName column))

unfoldable pub hub_kind_at : Left → Result (HubKind × Left) LineRefusal
hub_kind_at l = do
  name ← name_at l
  kind_named name.0.0 name.0.1 name.1

-- the kind and the capacity
abbrev pub with_kind : Left → Result (Order × Left) LineRefusal
with_kind l = do
  kind ← hub_kind_at l
  capacity ← number_at u64_of kind.1
  Ok (make_hub kind.0 capacity.0, capacity.1)

-- the commands that make a hub or publish to one; a name that is no command's stands at this column
unfoldable pub hub_command_at : ℕ → List ℕ → Left → Result (Order × Left) LineRefusal
hub_command_at column name l =
    if bytes_eq name (codes "hub") then with_kind l
    else (if bytes_eq name (codes "emit") then with_signed emit l
    else (if bytes_eq name (codes "complete") then with_one complete l
    else (if bytes_eq name (codes "fail") then with_two fail l
    else Err (UnknownName column))))

-- the other commands of numbers alone
unfoldable pub plain_command_at : ℕ → List ℕ → Left → Result (Order × Left) LineRefusal
plain_command_at column name l =
    if bytes_eq name (codes "request") then with_signed request l
    else (if bytes_eq name (codes "cancel") then with_one cancel l
    else (if bytes_eq name (codes "pump") then with_one pump l
    else (if bytes_eq name (codes "pick") then pick_at l
    else (if bytes_eq name (codes "show") then with_one show l
    else (if bytes_eq name (codes "asked") then with_one asked l
    else (if bytes_eq name (codes "count") then with_one count l
    else (if bytes_eq name (codes "joins") then with_one joins l
    else (if bytes_eq name (codes "choices") then with_one choices l
    else (if bytes_eq name (codes "check") then with_one check l
    else (if bytes_eq name (codes "why") then why_at l
    else (if bytes_eq name (codes "draw") then with_one draw l
    else hub_command_at column name l)))))))))))

-- the expression that is subscribed to, in a line of less than so many bytes
abbrev pub with_expression : ℕ → Left → Result (Order × Left) LineRefusal
with_expression most l = do
  e ← expression_at most l
  Ok (subscribe e.0, e.1)

-- the kind and the capacity of a hub, and the expression that feeds it
unfoldable pub feed_at : ℕ → Left → Result (Order × Left) LineRefusal
feed_at most l = do
  kind ← hub_kind_at l
  capacity ← number_at u64_of kind.1
  e ← expression_at most capacity.1
  Ok (feed_hub kind.0 capacity.0 e.0, e.1)

-- all commands
unfoldable pub command_at : ℕ → ℕ → List ℕ → Left → Result (Order × Left) LineRefusal
command_at most column name l =
    if bytes_eq name (codes "subscribe") then with_expression most l
    else (if bytes_eq name (codes "feed") then feed_at most l
    else plain_command_at column name l)

-- the command with which the first word of a line begins, and no word behind it; a line without words has none
abbrev pub line_from : ℕ → (ℕ × Written) × Left → Result (Option Order) LineRefusal
line_from most ((column, opening), rest) = Err (Syntax column)
line_from most ((column, closing), rest) = Err (Syntax column)
line_from most ((column, text name), rest) = command_at most column name rest >>= λ command. end_at command.1 >>= λ _. Ok (Some command.0)
line_from most ((column, strange), rest) = Err (Syntax column)
line_from most ((column, nothing), rest) = Ok None

unfoldable pub line_at : ℕ → Left → Result (Option Order) LineRefusal
line_at most l = next_at l >>= line_from most

-- what a line asks for: nothing where it has no words; else its command, or the first word that can't stand where it does
unfoldable pub meaning_of_line : List ℕ → Result (Option Order) LineRefusal
meaning_of_line line = if nat_lt 4096 (length line) then Err TooLong else line_at (length line + 1) (line_of line)

-- the expression of a line, and no word behind it
abbrev pub alone_at : ℕ → Left → Result Tree LineRefusal
alone_at most l = expression_at most l >>= λ e. end_at e.1 >>= λ _. Ok e.0

-- the expression that a line is, which stands there alone; else the first word that can't stand where it does
unfoldable pub expression_of_line : List ℕ → Result Tree LineRefusal
expression_of_line line = if nat_lt 4096 (length line) then Err TooLong else alone_at (length line + 1) (line_of line)
