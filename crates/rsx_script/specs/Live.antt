-- What a line of a script asks for whose graph may go live, and what the commands answer that the other modes don't have.
use Rattle.std.specs.Prelude.{ℕ, ◌+◌, nat_lt, Bool, ◌||◌, List, length, ◌++◌, Option, Some, None, Result, Ok, Err, if◌then◌else◌, codes}
use Rattle.std.specs.Fmt.{decimal}
use Rattle.std.specs.Str.{bytes_eq}
use Rattle.rsx_script.specs.declared.words.LineRefusal.{LineRefusal}
use Rattle.rsx_script.specs.declared.words.LineRefusal.TheVariants.{Syntax, UnknownName, TooLong}
use Rattle.rsx_script.specs.declared.live.LiveAnswer.{LiveAnswer}
use Rattle.rsx_script.specs.declared.live.LiveAnswer.TheVariants as answer
use Rattle.rsx_script.specs.declared.live.LiveCommand.{LiveCommand}
use Rattle.rsx_script.specs.declared.live.LiveCommand.TheVariants as asks
use Rattle.rsx_script.specs.Numbers.{u8_of, u32_of, u64_of}
use Rattle.rsx_script.specs.Reading.{Left, line_of, ◌>>=◌, next_at, end_at, number_at}
use Rattle.rsx_script.specs.Words.{Written, opening, closing, text, strange, nothing}
use Rattle.rsx_script.specs.Commands.{command_at}
use Rattle.rsx_script.specs.Orders.{Order, order_of}

-- a command, without where its expression lies in memory
pub data LiveOrder : Type 0 where
  live : ℕ → LiveOrder
  take : ℕ → ℕ → LiveOrder
  close : LiveOrder
  other : Order → LiveOrder

abbrev pub live_order_of : LiveCommand → LiveOrder
live_order_of (asks.Live workers) = live workers
live_order_of (asks.Take s n) = take s.0 n
live_order_of asks.Close = close
live_order_of (asks.Other command) = other (order_of command)

-- a command that the other modes have
unfoldable pub other_at : ℕ → ℕ → List ℕ → Left → Result (LiveOrder × Left) LineRefusal
other_at most column name l = command_at most column name l >>= λ command. Ok (other command.0, command.1)

-- of these the commands with these names are known while the graph is live
abbrev pub is_known_while_live : List ℕ → Bool
is_known_while_live n = bytes_eq n (codes "emit") || (bytes_eq n (codes "complete") || (bytes_eq n (codes "fail") || (bytes_eq n (codes "subscribe") || (bytes_eq n (codes "request") || bytes_eq n (codes "cancel")))))

-- a subscription, and how many signals are taken at most
abbrev pub take_at : Left → Result (LiveOrder × Left) LineRefusal
take_at l = do
  s ← number_at u32_of l
  most ← number_at u64_of s.1
  Ok (take s.0 most.0, most.1)

-- a number of workers
abbrev pub workers_at : Left → Result (LiveOrder × Left) LineRefusal
workers_at l = do
  workers ← number_at u8_of l
  Ok (live workers.0, workers.1)

-- the commands that are known while the graph is live; a name that is none of theirs stands at this column
unfoldable pub command_while_live_at : ℕ → ℕ → List ℕ → Left → Result (LiveOrder × Left) LineRefusal
command_while_live_at most column name l =
    if bytes_eq name (codes "take") then take_at l
    else (if bytes_eq name (codes "close") then Ok (close, l)
    else (if is_known_while_live name then other_at most column name l
    else Err (UnknownName column)))

-- all commands, where the graph is live or is not
unfoldable pub live_command_at : Bool → ℕ → ℕ → List ℕ → Left → Result (LiveOrder × Left) LineRefusal
live_command_at is_live most column name l =
    if is_live then command_while_live_at most column name l
    else (if bytes_eq name (codes "live") then workers_at l
    else other_at most column name l)

-- the command with which the first word of a line begins, and no word behind it; a line without words has none
abbrev pub live_line_from : Bool → ℕ → (ℕ × Written) × Left → Result (Option LiveOrder) LineRefusal
live_line_from is_live most ((column, opening), rest) = Err (Syntax column)
live_line_from is_live most ((column, closing), rest) = Err (Syntax column)
live_line_from is_live most ((column, text name), rest) = live_command_at is_live most column name rest >>= λ command. end_at command.1 >>= λ _. Ok (Some command.0)
live_line_from is_live most ((column, strange), rest) = Err (Syntax column)
live_line_from is_live most ((column, nothing), rest) = Ok None

unfoldable pub live_line_at : Bool → ℕ → Left → Result (Option LiveOrder) LineRefusal
live_line_at is_live most l = next_at l >>= live_line_from is_live most

-- what a line asks for, where the graph is live or is not: nothing where it has no words; else its command, or the first word that can't
-- stand where it does
unfoldable pub meaning_of_live_line : Bool → List ℕ → Result (Option LiveOrder) LineRefusal
meaning_of_live_line is_live line = if nat_lt 4096 (length line) then Err TooLong else live_line_at is_live (length line + 1) (line_of line)

-- the text of an answer
abbrev pub live_answer_text : LiveAnswer → List ℕ
live_answer_text (answer.Live workers) = codes "live " ++ decimal workers
live_answer_text (answer.Took count) = codes "took " ++ decimal count
live_answer_text answer.Closed = codes "closed"
