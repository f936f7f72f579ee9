-- The subscription table: five states, seven columns.
use Rattle.std.specs.Prelude.{ℕ, pos, ◌+◌, nat_lt, int_lt, unsigned_abs, if◌then◌else◌, Result, Ok, Err}
use Rattle.rsx_demand.specs.Demand.{saturating_total}
use Rattle.rsx_demand.specs.declared.Demand.{Demand}
use Rattle.rsx_subscription.specs.declared.State.{State}
use Rattle.rsx_subscription.specs.declared.State.TheVariants.{Fresh, Open, Cancelled, Done, Failed}
use Rattle.rsx_subscription.specs.declared.Input.{Input}
use Rattle.rsx_subscription.specs.declared.Input.TheVariants.{Subscribe, Next, Complete, Error, Request, Cancel}
use Rattle.rsx_subscription.specs.declared.Effect.{Effect}
use Rattle.rsx_subscription.specs.declared.Effect.TheVariants.{Opened, Deliver, Add, Bad, Close, Drop, Nothing}
use Rattle.rsx_subscription.specs.declared.Refusal.{Refusal}
use Rattle.rsx_subscription.specs.declared.Refusal.TheVariants.{OutOfTurn, Twice, Overrun, AfterEnd}

-- a column of the table: a request is a good or a bad one
pub data Column : Type 0 where
  subscribe : Column
  next : Column
  complete : Column
  error : Column
  good_request : ℕ → Column
  bad_request : Column
  cancel : Column

abbrev pub column : Input → Column
column Subscribe = subscribe
column Next = next
column Complete = complete
column Error = error
column (Request n) = if int_lt (pos 0) n then good_request (unsigned_abs n) else bad_request
column Cancel = cancel

-- what a cell says
pub data Cell : Type 0 where
  -- the new state and the effect, and the demand stays
  to : State → Effect → Cell
  -- an item is delivered and counted where demand is left, and else it is an overrun
  within_demand : Cell
  -- the demand rises by so many items, and the state stays
  raise : ℕ → Cell
  -- nothing changes
  refuse : Refusal → Cell

abbrev pub cell : State → Column → Cell
cell Fresh subscribe = to Open Opened
cell Fresh next = refuse OutOfTurn
cell Fresh complete = refuse OutOfTurn
cell Fresh error = refuse OutOfTurn
cell Fresh (good_request n) = refuse OutOfTurn
cell Fresh bad_request = refuse OutOfTurn
cell Fresh cancel = refuse OutOfTurn
cell Open subscribe = refuse Twice
cell Open next = within_demand
cell Open complete = to Done Deliver
cell Open error = to Failed Deliver
cell Open (good_request n) = raise n
cell Open bad_request = to Failed Bad
cell Open cancel = to Cancelled Close
cell Cancelled subscribe = refuse Twice
cell Cancelled next = to Cancelled Drop
cell Cancelled complete = to Cancelled Drop
cell Cancelled error = to Cancelled Drop
cell Cancelled (good_request n) = to Cancelled Nothing
cell Cancelled bad_request = to Cancelled Nothing
cell Cancelled cancel = to Cancelled Nothing
cell Done subscribe = refuse Twice
cell Done next = refuse AfterEnd
cell Done complete = refuse AfterEnd
cell Done error = refuse AfterEnd
cell Done (good_request n) = to Done Nothing
cell Done bad_request = to Done Nothing
cell Done cancel = to Done Nothing
cell Failed subscribe = refuse Twice
cell Failed next = refuse AfterEnd
cell Failed complete = refuse AfterEnd
cell Failed error = refuse AfterEnd
cell Failed (good_request n) = to Failed Nothing
cell Failed bad_request = to Failed Nothing
cell Failed cancel = to Failed Nothing

-- the cell of a state and an input
abbrev pub cell_of : State → Input → Cell
cell_of s i = cell s (column i)

-- the state after a step
abbrev pub state_after : Cell → State → State
state_after (to s e) old = s
state_after within_demand old = old
state_after (raise n) old = old
state_after (refuse r) old = old

-- what was asked for, after a step
abbrev pub asked_after : Cell → Demand → ℕ
asked_after (to s e) d = d.asked
asked_after within_demand d = d.asked
asked_after (raise n) d = saturating_total d.asked n
asked_after (refuse r) d = d.asked

-- what was sent, after a step
abbrev pub sent_after : Cell → Demand → ℕ
sent_after (to s e) d = d.sent
sent_after within_demand d = if nat_lt d.sent d.asked then d.sent + 1 else d.sent
sent_after (raise n) d = d.sent
sent_after (refuse r) d = d.sent

-- the answer of a step
abbrev pub answer : Cell → Demand → Result Effect Refusal
answer (to s e) d = Ok e
answer within_demand d = if nat_lt d.sent d.asked then Ok Deliver else Err Overrun
answer (raise n) d = Ok Add
answer (refuse r) d = Err r

-- a subscription from which no signal comes any more
abbrev pub IsClosed : State → Type 0
IsClosed Fresh = ⊥
IsClosed Open = ⊥
IsClosed Cancelled = Unit {0}
IsClosed Done = Unit {0}
IsClosed Failed = Unit {0}
