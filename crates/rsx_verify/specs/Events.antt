-- How what happens to subscriptions is recorded.
use Rattle.std.specs.Prelude.{ℕ, List, [], ◌∷◌, Option, Some, None}
use Rattle.std.specs.List.{flat_map}
use Rattle.rsx_tck.specs.declared.event.Event.{Event}
use Rattle.rsx_tck.specs.declared.event.Event.TheVariants as event
use Rattle.rsx_tck.specs.declared.event.Stamped.{Stamped}
use Rattle.rsx_types.specs.declared.names.SubId.{SubId}
use Rattle.rsx_types.specs.declared.signal.Signal.{Signal}
use Rattle.rsx_types.specs.declared.signal.Signal.TheVariants.{Next, Complete, Error}

-- an event on this worker
abbrev pub stamped_on : ℕ → Event → Stamped
stamped_on w e = record { worker = w; event = e }

-- an event on worker 0
abbrev pub stamped : Event → Stamped
stamped e = stamped_on 0 e

-- the signal to this subscriber begins
abbrev pub event_of : {T : Type 0} → ℕ → Signal T → Event
event_of s (Next x) = event.Next s
event_of s Complete = event.Complete s
event_of s (Error c) = event.Error s c

-- a signal that was delivered on this worker: it begins and returns
abbrev pub delivery : {T : Type 0} → ℕ → SubId × Signal T → List Stamped
delivery w d = stamped_on w (event_of d.0.0 d.1) ∷ stamped_on w (event.Exit d.0.0) ∷ []

-- the signals that were delivered on this worker, in their order
abbrev pub deliveries : {T : Type 0} → ℕ → List (SubId × Signal T) → List Stamped
deliveries w ds = flat_map (delivery w) ds

-- the signal that a request answers, if any, delivered at once to this subscriber, on worker 0
abbrev pub answered : {T : Type 0} → SubId → Option (Signal T) → List Stamped
answered i None = []
answered i (Some s) = delivery 0 (i, s)

-- a subscription of this subscriber
abbrev pub beginning : ℕ → List Stamped
beginning i = stamped (event.Subscribe i) ∷ stamped (event.OnSubscribe i) ∷ stamped (event.Exit i) ∷ []
