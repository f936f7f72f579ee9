-- Traces as text: what is written, line by line.
use Rattle.std.specs.Prelude.{ℕ, ◌≤◌, List, [], ◌∷◌, ◌++◌, FitsSigned, codes}
use Rattle.std.specs.Int.{w64}
use Rattle.std.specs.List.{flat_map}
use Rattle.std.specs.Fmt.{decimal, signed_decimal}
use Rattle.rsx_types.specs.declared.signal.Cause.{Cause}
use Rattle.rsx_types.specs.declared.signal.Cause.TheVariants.{User, Function, NonPositiveRequest}
use Rattle.rsx_tck.specs.declared.event.Event.{Event}
use Rattle.rsx_tck.specs.declared.event.Event.TheVariants as event
use Rattle.rsx_tck.specs.declared.event.Stamped.{Stamped}

-- why a stream failed
abbrev pub cause_text : Cause → List ℕ
cause_text (User n) = codes "user " ++ decimal n
cause_text (Function n) = codes "function " ++ decimal n
cause_text NonPositiveRequest = codes "bad-request"

-- an event, as on a line of format 1
abbrev pub event_text : Event → List ℕ
event_text (event.Subscribe s) = codes "subscribe " ++ decimal s
event_text (event.OnSubscribe s) = codes "on-subscribe " ++ decimal s
event_text (event.Next s) = codes "next " ++ decimal s
event_text (event.Complete s) = codes "complete " ++ decimal s
event_text (event.Error s cause) = codes "error " ++ decimal s ++ codes " " ++ cause_text cause
event_text (event.Exit s) = codes "exit " ++ decimal s
event_text (event.Request s n) = codes "request " ++ decimal s ++ codes " " ++ signed_decimal n
event_text (event.Cancel s) = codes "cancel " ++ decimal s
event_text (event.CancelNew s) = codes "cancel-new " ++ decimal s

-- a line of format 2, without its newline: the worker, a space, and the event
abbrev pub line_text : Stamped → List ℕ
line_text e = decimal e.worker ++ codes " " ++ event_text e.event

-- the lines of these events, each with its newline
abbrev pub lines_text : List Stamped → List ℕ
lines_text events = flat_map (λ e. line_text e ++ codes "\n") events

-- a trace of format 2
abbrev pub trace_text : List Stamped → List ℕ
trace_text events = codes "trace 2\n" ++ lines_text events ++ codes "end\n"

-- The numbers of an event fit their types, and its worker is one of the sixteen.
abbrev pub FitsCause : Cause → Type 0
FitsCause (User n) = n ≤ 4294967295
FitsCause (Function n) = n ≤ 4294967295
FitsCause NonPositiveRequest = Unit {0}

abbrev pub FitsEvent : Event → Type 0
FitsEvent (event.Subscribe s) = s ≤ 4294967295
FitsEvent (event.OnSubscribe s) = s ≤ 4294967295
FitsEvent (event.Next s) = s ≤ 4294967295
FitsEvent (event.Complete s) = s ≤ 4294967295
FitsEvent (event.Error s cause) = (s ≤ 4294967295) × FitsCause cause
FitsEvent (event.Exit s) = s ≤ 4294967295
FitsEvent (event.Request s n) = (s ≤ 4294967295) × FitsSigned w64 n
FitsEvent (event.Cancel s) = s ≤ 4294967295
FitsEvent (event.CancelNew s) = s ≤ 4294967295

pub record FitsStamped (e : Stamped) : Type 0 where
  pub worker : e.worker ≤ 15
  pub event : FitsEvent e.event

abbrev pub AllFit : List Stamped → Type 0
AllFit [] = Unit {0}
AllFit (e ∷ events) = FitsStamped e × AllFit events
