-- The limits that a graph keeps, whatever calls and moves are made: of the items that a hub accepts in its life, and of the nodes of
-- a feed.
use Rattle.rsx_graph.specs.Kinds.{Feed}
use Rattle.std.specs.Prelude.{⊤, ◌<◌, ◌≤◌, List, [], ◌∷◌, length}
use Rattle.rsx_demand.specs.declared.TheConstants.{UNBOUNDED}
use Rattle.rsx_hub.specs.Hub.{HubState, accepted_items}
use Rattle.rsx_graph_state.specs.Prelude.{MOST_ACCEPTED}
use Rattle.rsx_subscriber.specs.Prelude.{MOST_NODES, all_edges, IsWithin}

-- none of these hubs accepted more items than a hub may
abbrev pub HaveAcceptedFew : {T : Type 0} → List (HubState T) → Type 0
HaveAcceptedFew [] = ⊤
HaveAcceptedFew (s ∷ ss) = (accepted_items s ≤ MOST_ACCEPTED) × HaveAcceptedFew ss

-- none of these feeds has more nodes, each with its edge, than an expression may have
abbrev pub HaveFewNodes : {T : Type 0} → List (Feed T) → Type 0
HaveFewNodes [] = ⊤
HaveFewNodes (f ∷ fs) = (length (all_edges f.part) ≤ MOST_NODES) × HaveFewNodes fs

pub record KeepsLimits {T : Type 0} (hubs : List (HubState T)) (feeds : List (Feed T)) : Type 0 where
  pub accepted : HaveAcceptedFew hubs
  pub nodes : HaveFewNodes feeds

-- ---- what a claim that something was delivered has as a premise

-- no edge of these feeds has carried 2^63-1 items
abbrev pub HaveCarriedFewer : {T : Type 0} → List (Feed T) → Type 0
HaveCarriedFewer [] = ⊤
HaveCarriedFewer (f ∷ fs) = (f.part.root.demand.sent < UNBOUNDED) × IsWithin f.part.tree × HaveCarriedFewer fs
