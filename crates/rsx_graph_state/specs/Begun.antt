-- A graph with one subscription more.
use Rattle.rsx_sources.specs.declared.machine.Machine.{Ghosts as Machine}
use Rattle.std.specs.Prelude.{◌≡◌, ◌⊎◌, ℕ, ◌≤◌, false, List, [], ◌∷◌, ◌++◌}
use Rattle.rsx_subscriber.specs.Prelude.{Expr, IsFresh}
use Rattle.rsx_graph_state.specs.declared.TheConstants.{MOST_SUBSCRIPTIONS}
use Rattle.rsx_hub.specs.Hub.{HubState}
pub use Rattle.rsx_rooted.specs.Leaves.{HaveJoined, have_places}
use Rattle.rsx_subscriber.specs.declared.subscription.Subscription.{Subscription}

-- a subscription to an expression began, behind the others, which stay
abbrev pub IsSubscribed : {M T : Type 0} → Machine M T → Expr T → List (Subscription M T) → List (Subscription M T) → Type 0
IsSubscribed {M} {T} mc e old new = (sub : Subscription M T) × (new ≡ old ++ sub ∷ []) × IsFresh mc e sub

-- there are as many subscriptions as there may be, or some hub has no place for the leaves
abbrev pub AreTooMany : {T : Type 0} → Expr T → List (HubState T) → ℕ → Type 0
AreTooMany e hubs count = (MOST_SUBSCRIPTIONS ≤ count) ⊎ (have_places 0 e hubs ≡ false)
