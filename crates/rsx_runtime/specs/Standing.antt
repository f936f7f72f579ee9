-- How a tap stands, what it gave, and lists of signals that nothing follows after an ending.
use Rattle.std.specs.Prelude.{ℕ, Bool, true, false, List, [], ◌∷◌, ◌++◌, Option, Some, None}
use Rattle.rsx_types.specs.declared.signal.Cause.TheVariants.{NonPositiveRequest}
use Rattle.rsx_types.specs.declared.signal.Signal.{Signal}
use Rattle.rsx_types.specs.declared.signal.Signal.TheVariants.{Next, Complete, Error}
use Rattle.rsx_runtime.specs.declared.tap.Tapped.{Tapped}
use Rattle.rsx_runtime.specs.declared.tap.Tapped.TheVariants.{Open, Cancelled, Refused, Over}

-- ---- how a tap stands

-- whether it gives signals
abbrev pub gives : Tapped → Bool
gives Open = true
gives Cancelled = true
gives Refused = false
gives Over = false

-- whether it requests and cancels
abbrev pub asks : Tapped → Bool
asks Open = true
asks Cancelled = false
asks Refused = true
asks Over = false

-- whether it is over
abbrev pub is_over : Tapped → Bool
is_over Open = false
is_over Cancelled = false
is_over Refused = false
is_over Over = true

-- at the opening
abbrev pub opened_state : Bool → Tapped
opened_state true = Open
opened_state false = Over

-- once it was called to cancel
abbrev pub cancelled_state : Tapped → Tapped
cancelled_state Open = Cancelled
cancelled_state Cancelled = Cancelled
cancelled_state Refused = Over
cancelled_state Over = Over

module _ {T : Type 0} where
  -- once it gave a signal
  abbrev pub taken_state : Signal T → Tapped → Tapped
  taken_state (Next x) old = old
  taken_state Complete old = Over
  taken_state (Error c) old = Over

  -- once it requested: a bad request ends it, where it was answered by its error, and else it gives nothing more
  abbrev pub requested_state : Option ℕ → Option (Signal T) → Tapped → Tapped
  requested_state (Some items) answer old = old
  requested_state None (Some error) old = Over
  requested_state None None old = Refused

  -- ---- what it gave

  abbrev pub error_of : Bool → List (Signal T)
  error_of false = []
  error_of true = Error NonPositiveRequest ∷ []

  -- what was taken from the queue, and then the error of a bad request, where it gave that
  abbrev pub given_by : List (Signal T) → Bool → List (Signal T)
  given_by received error = received ++ error_of error

  abbrev pub signals_of : Option (Signal T) → List (Signal T)
  signals_of None = []
  signals_of (Some s) = s ∷ []
