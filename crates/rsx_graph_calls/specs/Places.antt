-- Places for subscriptions that are still to come.
use Rattle.std.specs.Prelude.{ℕ, ◌-◌, min, List, [], ◌∷◌}
use Rattle.rsx_hub.specs.Hub.{HubState}
use Rattle.rsx_hub.specs.declared.TheConstants.{MOST_MEMBERS}
use Rattle.rsx_graph_state.specs.declared.TheConstants.{MOST_SUBSCRIPTIONS}

-- as many members as each hub still admits, but at most so many
abbrev pub places_beside : {T : Type 0} → ℕ → List (HubState T) → ℕ
places_beside most [] = most
places_beside most (h ∷ hs) = places_beside (min most (MOST_MEMBERS - h.members)) hs

-- as many subscriptions as there may be beside so many, each with one leaf at a hub at most
abbrev pub places : {T : Type 0} → List (HubState T) → ℕ → ℕ
places hs subscriptions = places_beside (min (MOST_SUBSCRIPTIONS - subscriptions) MOST_MEMBERS) hs
