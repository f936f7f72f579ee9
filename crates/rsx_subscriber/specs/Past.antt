-- What has happened to one subscriber.
use Rattle.std.specs.Prelude.{ℕ, ℤ, pos, negsuc, zero, suc, Bool, true, false, List, [], ◌∷◌, ◌++◌, Option, Some, None, if◌then◌else◌}
use Rattle.rsx_demand.specs.Demand.{saturating_total}
use Rattle.rsx_model.specs.declared.expr.Expr.{Expr}
pub use Rattle.rsx_pipe.specs.Output.{items_in, IsUnended, IsOrderly, IsPrefixOf}
use Rattle.rsx_sources.specs.Prelude.{NonPositiveRequest, Signal, Next, Complete, Error}
use Rattle.rsx_subscriber.specs.declared.state.SubscriptionState.{SubscriptionState}
use Rattle.rsx_subscriber.specs.declared.state.SubscriptionState.TheVariants.{Open, Ended, Cancelled, Refused}

-- what has happened to a subscriber: its expression and joins, the signals it received, the items it asked for, how it stands
pub record Past (T : Type 0) : Type 0 where
  pub expression : Expr T
  pub joins : List ℕ
  pub received : List (Signal T)
  pub asked : ℕ
  pub state : SubscriptionState

-- it subscribed
abbrev pub subscribed : {T : Type 0} → Expr T → List ℕ → Past T
subscribed e joins = record { expression = e; joins = joins; received = []; asked = 0; state = Open }

-- how a subscription stands after a signal of its expression
abbrev pub state_after : {T : Type 0} → SubscriptionState → Signal T → SubscriptionState
state_after s (Next x) = s
state_after s Complete = Ended
state_after s (Error c) = Ended

-- it received a signal
abbrev pub given : {T : Type 0} → Signal T → Past T → Past T
given s p = record { expression = p.expression; joins = p.joins; received = p.received ++ s ∷ []; asked = p.asked; state = state_after p.state s }

abbrev pub cancelled_state : SubscriptionState → SubscriptionState
cancelled_state Open = Cancelled
cancelled_state Ended = Ended
cancelled_state Cancelled = Cancelled
cancelled_state Refused = Refused

-- it cancelled; this does nothing unless it was open
abbrev pub cancelled : {T : Type 0} → Past T → Past T
cancelled p = record { expression = p.expression; joins = p.joins; received = p.received; asked = p.asked; state = cancelled_state p.state }

-- it asked for n items more
abbrev pub asked_more : {T : Type 0} → ℕ → Past T → Past T
asked_more n p = record { expression = p.expression; joins = p.joins; received = p.received; asked = saturating_total p.asked n; state = p.state }

-- it asked for 0 items or fewer: it receives the error, and is closed
abbrev pub refused : {T : Type 0} → Past T → Past T
refused p = record { expression = p.expression; joins = p.joins; received = p.received ++ Error NonPositiveRequest ∷ []; asked = p.asked; state = Refused }

abbrev pub requested_open : {T : Type 0} → ℤ → Past T → Past T
requested_open (pos zero) p = refused p
requested_open (pos (suc n)) p = asked_more (suc n) p
requested_open (negsuc n) p = refused p

abbrev pub requested_in : {T : Type 0} → SubscriptionState → ℤ → Past T → Past T
requested_in Open n p = requested_open n p
requested_in Ended n p = p
requested_in Cancelled n p = p
requested_in Refused n p = p

-- it requested n; this does nothing unless it was open
abbrev pub requested : {T : Type 0} → ℤ → Past T → Past T
requested n p = requested_in p.state n p

-- a request of n in this state is a bad one
abbrev pub is_bad : SubscriptionState → ℤ → Bool
is_bad Open (pos zero) = true
is_bad Open (pos (suc n)) = false
is_bad Open (negsuc n) = true
is_bad Ended n = false
is_bad Cancelled n = false
is_bad Refused n = false

-- what a request answers
abbrev pub request_answer : {T : Type 0} → SubscriptionState → ℤ → Option (Signal T)
request_answer s n = if is_bad s n then Some (Error NonPositiveRequest) else None

-- a subscriber is live unless it cancelled or made a bad request
abbrev pub IsLive : SubscriptionState → Type 0
IsLive Open = Unit {0}
IsLive Ended = Unit {0}
IsLive Cancelled = ⊥
IsLive Refused = ⊥
