-- How what happens to a subscription is written down.
use Rattle.std.specs.Prelude.{ℕ, List, [], ◌∷◌, min}
use Rattle.rsx_tck.specs.declared.event.Event.{Event}
use Rattle.rsx_tck.specs.declared.event.Event.TheVariants as event
use Rattle.rsx_tck.specs.declared.event.Stamped.{Stamped}
use Rattle.rsx_types.specs.declared.signal.Signal.{Signal}
use Rattle.rsx_types.specs.declared.signal.Signal.TheVariants.{Next, Complete, Error}

-- an event on this worker; the last one has the number 15
abbrev pub stamped : ℕ → Event → Stamped
stamped worker e = record { worker = min worker 15; event = e }

-- the signal to this subscriber begins
abbrev pub event_of : {T : Type 0} → ℕ → Signal T → Event
event_of s (Next x) = event.Next s
event_of s Complete = event.Complete s
event_of s (Error c) = event.Error s c

-- a subscription of this subscriber, on worker 0
abbrev pub beginning : ℕ → List Stamped
beginning s = stamped 0 (event.Subscribe s) ∷ stamped 0 (event.OnSubscribe s) ∷ stamped 0 (event.Exit s) ∷ []

-- a signal that was delivered on this worker: it begins and returns
abbrev pub delivery : {T : Type 0} → ℕ → ℕ → Signal T → List Stamped
delivery worker s signal = stamped worker (event_of s signal) ∷ stamped worker (event.Exit s) ∷ []
