-- The text of answers.
use Rattle.std.specs.Prelude.{◌≡◌, ℕ, ◌+◌, nat_eq, if◌then◌else◌, List, [], ◌∷◌, ◌++◌, Some, None, codes}
use Rattle.std.specs.List.{flat_map}
use Rattle.std.specs.Fmt.{decimal}
use Rattle.rsx_values.specs.declared.limits.TheConstants.{MAIN}
use Rattle.rsx_values.specs.Prelude.{Note, Nothing, Picks, Ended, User, Function, NonPositiveRequest, Ending, Open, Done as EndedDone, Failed}
use Rattle.rsx_demo.specs.declared.val.Val.{Val}
use Rattle.rsx_demo.specs.Texts.{item_text}
use Rattle.rsx_waits.specs.Looks.{looks_text}
use Rattle.rsx_waits.specs.Texts.{feed_wait_text, wait_text}
use Rattle.rsx_script.specs.declared.print.Rest.{Rest}
use Rattle.rsx_script.specs.declared.print.Rest.TheVariants.{Owed, Cancelled, Closed}
use Rattle.rsx_script.specs.declared.print.Shown.{Shown as Received}
use Rattle.rsx_script.specs.declared.print.Answer.{Answer}
use Rattle.rsx_script.specs.declared.print.Answer.TheVariants.{Hub, Sub, Done, Idle, Budget, Shown, Value, Asked, Count, Joins, Choices, Equal, Different, Waits, FeedWaits, Drawn, Refused}

-- each number behind a space
abbrev pub numbers_text : List ℕ → List ℕ
numbers_text numbers = flat_map (λ n. codes " " ++ decimal n) numbers

-- a choice: the number of an input, or `m` for Main
abbrev pub choice_text : ℕ → List ℕ
choice_text c = if nat_eq c MAIN then codes "m" else decimal c

-- choices with a comma between them
abbrev pub picks_text : List ℕ → List ℕ
picks_text [] = []
picks_text (c ∷ cs) = choice_text c ++ flat_map (λ n. codes "," ++ choice_text n) cs

-- what a node with this number recorded, behind a space, the number and a colon; of a node that records nothing there is none
abbrev pub note_text : ℕ → Note → List ℕ
note_text node Nothing = []
note_text node (Picks cs) = (codes " " ++ (decimal node ++ codes ":")) ++ picks_text cs
note_text node (Ended None) = codes " " ++ (decimal node ++ codes ":")
note_text node (Ended (Some i)) = codes " " ++ (decimal node ++ (codes ":" ++ decimal i))

-- what these nodes recorded, of which the first has this number
abbrev pub notes_text : ℕ → List Note → List ℕ
notes_text node [] = []
notes_text node (n ∷ ns) = note_text node n ++ notes_text (node + 1) ns

-- an ending behind a space; where there is none yet, nothing
abbrev pub ending_text : Ending → List ℕ
ending_text Open = []
ending_text EndedDone = codes " complete"
ending_text (Failed (User n)) = codes " error user " ++ decimal n
ending_text (Failed (Function n)) = codes " error function " ++ decimal n
ending_text (Failed NonPositiveRequest) = codes " error bad-request"

-- each item behind a space
abbrev pub items_text : List Val → List ℕ
items_text items = flat_map (λ item. codes " " ++ item_text item) items

-- the items, and then the ending
abbrev pub signals_text : List Val → Ending → List ℕ
signals_text items ending = items_text items ++ ending_text ending

-- what follows what a subscriber received
abbrev pub rest_text : Rest → List ℕ
rest_text (Owed value) = codes " | owed" ++ signals_text value.items value.ending
rest_text Cancelled = codes " | cancelled"
rest_text Closed = codes " | closed"

-- what a subscriber received, and the rest
abbrev pub shown_text : Received → List ℕ
shown_text shown = codes "received" ++ (signals_text shown.received.now shown.ending ++ rest_text shown.rest)

-- the text of an answer
abbrev pub answer_text : Answer → List ℕ
answer_text (Hub hub) = codes "hub " ++ decimal hub.0
answer_text (Sub sub) = codes "sub " ++ decimal sub.0
answer_text Done = codes "ok"
answer_text Idle = codes "idle"
answer_text Budget = codes "budget"
answer_text (Shown shown) = shown_text shown
answer_text (Value value) = codes "scratch" ++ signals_text value.items value.ending
answer_text (Asked asked) = codes "asked " ++ decimal asked
answer_text (Count count) = codes "count " ++ decimal count
answer_text (Joins joins) = codes "joins" ++ numbers_text joins.items
answer_text (Choices notes) = codes "choices" ++ notes_text 0 notes.items
answer_text Equal = codes "equal"
answer_text Different = codes "different"
answer_text (Waits wait) = codes "waits: " ++ wait_text wait
answer_text (FeedWaits wait) = codes "waits: " ++ feed_wait_text wait
answer_text (Drawn picture) = codes "tree" ++ looks_text 0 picture.nodes.items
answer_text (Refused name) = codes "refused " ++ name.now

-- what an answer is printed as
abbrev pub IsTextOf : Answer → List ℕ → Type 0
IsTextOf answer text = text ≡ answer_text answer
