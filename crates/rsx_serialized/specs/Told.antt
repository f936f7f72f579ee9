-- What a holder tells its graph.
use Rattle.std.specs.Prelude.{ℕ, zero, suc, Bool, true, false, List, [], ◌∷◌, map}
use Rattle.rsx_types.specs.declared.names.HubId.{HubId}
use Rattle.rsx_types.specs.declared.names.SubId.{SubId}
use Rattle.rsx_types.specs.declared.signal.Signal.{Signal}
use Rattle.rsx_serialized.specs.Events.{Event, asked, published, stopped}

module _ {T : Type 0} where
  -- these signals are published, one after the other
  abbrev pub publishes : HubId → List (Signal T) → List (Event T)
  publishes k ss = map (published k) ss

  -- so many items are requested, if any
  abbrev pub asks : SubId → ℕ → List (Event T)
  asks i zero = []
  asks i (suc n) = asked i n ∷ []

  -- it is cancelled, if this says so
  abbrev pub stops : SubId → Bool → List (Event T)
  stops i true = stopped i ∷ []
  stops i false = []
