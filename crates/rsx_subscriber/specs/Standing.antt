-- Where a subscription stands in the table of rsx_subscription.
use Rattle.std.specs.Prelude.{Bool, true, false, List, [], ◌∷◌, Result, Ok, Err}
use Rattle.rsx_demand.specs.declared.Demand.{Demand}
use Rattle.rsx_subscription.specs.Table.{cell_of, answer}
use Rattle.rsx_subscription.specs.declared.State.{State}
use Rattle.rsx_subscription.specs.declared.State.TheVariants.{Fresh, Open, Cancelled, Done, Failed}
use Rattle.rsx_subscription.specs.declared.Input.{Input}
use Rattle.rsx_subscription.specs.declared.Input.TheVariants.{Next as Item, Complete as Completion, Error as Failure}
use Rattle.rsx_subscription.specs.declared.Effect.{Effect}
use Rattle.rsx_subscription.specs.declared.Effect.TheVariants.{Opened, Deliver, Add, Bad, Close, Drop, Nothing}
use Rattle.rsx_subscription.specs.declared.Refusal.{Refusal}
use Rattle.rsx_sources.specs.Prelude.{Signal, Next, Complete, Error}
use Rattle.rsx_subscriber.specs.declared.state.SubscriptionState.{SubscriptionState}
use Rattle.rsx_subscriber.specs.declared.state.SubscriptionState.TheVariants.{Open as IsOpen, Ended, Cancelled as IsCancelled, Refused}

-- how a subscription stands, by the table and by whether the subscriber is live: a failed one is live where the error came
-- from its expression
abbrev pub standing : State → Bool → SubscriptionState
standing Fresh live = IsOpen
standing Open live = IsOpen
standing Cancelled live = IsCancelled
standing Done live = Ended
standing Failed true = Ended
standing Failed false = Refused

-- a subscriber is live unless it cancelled or made a bad request
abbrev pub live_in : SubscriptionState → Bool
live_in IsOpen = true
live_in Ended = true
live_in IsCancelled = false
live_in Refused = false

-- a signal as an input of the table
abbrev pub input_of : {T : Type 0} → Signal T → Input
input_of (Next x) = Item
input_of Complete = Completion
input_of (Error c) = Failure

abbrev pub is_delivery : Result Effect Refusal → Bool
is_delivery (Ok Opened) = false
is_delivery (Ok Deliver) = true
is_delivery (Ok Add) = false
is_delivery (Ok Bad) = false
is_delivery (Ok Close) = false
is_delivery (Ok Drop) = false
is_delivery (Ok Nothing) = false
is_delivery (Err r) = false

-- the table delivers the front signal of a queue
abbrev pub delivers : {T : Type 0} → State → Demand → List (Signal T) → Bool
delivers state demand [] = false
delivers state demand (s ∷ ss) = is_delivery (answer (cell_of state (input_of s)) demand)
