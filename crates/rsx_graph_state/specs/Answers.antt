-- What has happened to all subscribers, and which answers the calls of a graph can have after it.
use Rattle.std.specs.Prelude.{◌≡◌, ℕ, ◌≤◌, ◌<◌, zero, suc, Bool, true, false, List, [], ◌∷◌, Option, Some, None}
use Rattle.rsx_hub.specs.Hub.{are_numbers}
use Rattle.rsx_subscriber.specs.Prelude.{refusal, Expr, Past, given, Number}
use Rattle.rsx_subscriber.specs.declared.state.SubscriptionState.{SubscriptionState}
use Rattle.rsx_sources.specs.Prelude.{HubKind, SubId, Signal}
use Rattle.rsx_graph_state.specs.declared.TheConstants.{MOST_HUBS, MOST_SUBSCRIPTIONS}
use Rattle.rsx_graph_state.specs.declared.refusal.Refusal.{Refusal}
use Rattle.rsx_graph_state.specs.declared.refusal.Refusal.TheVariants.{UnknownHub, UnknownSub, TooMany, BadExpr, NotEnabled, NoMemory}

-- the element at place i changed
abbrev pub changed : {A : Type 0} → (A → A) → List A → ℕ → List A
changed f [] i = []
changed f (x ∷ xs) zero = f x ∷ xs
changed f (x ∷ xs) (suc i) = x ∷ changed f xs i

-- the pasts after deliveries
abbrev pub pasts_after : {T : Type 0} → List (SubId × Signal T) → List (Past T) → List (Past T)
pasts_after [] ps = ps
pasts_after (d ∷ ds) ps = pasts_after ds (changed (given d.1) ps d.0.0)

-- ---- which answers belong to a step

-- the state of the subscription with this number
abbrev pub state_at : {T : Type 0} → List (Past T) → ℕ → Option SubscriptionState
state_at [] i = None
state_at (p ∷ ps) zero = Some p.state
state_at (p ∷ ps) (suc i) = state_at ps i

-- the number of a new subscription is how many there were, and nothing refused it: neither the expression nor the limit
abbrev pub IsSubscribeId : {T : Type 0} → ℕ → ℕ → Expr T → SubId → Type 0
IsSubscribeId hubs count e i = (i.0 ≡ count) × (refusal hubs e ≡ None) × (count < MOST_SUBSCRIPTIONS)

-- why a move in the tree of a subscription is refused, where there are so many: an unknown name first, then a move that isn't
-- enabled, and memory last
abbrev pub IsSubMoveRefusal : ℕ → Bool → SubId → Refusal → Type 0
IsSubMoveRefusal count enabled i UnknownSub = count ≤ i.0
IsSubMoveRefusal count enabled i NotEnabled = (i.0 < count) × (enabled ≡ false)
IsSubMoveRefusal count enabled i NoMemory = (i.0 < count) × (enabled ≡ true)
IsSubMoveRefusal count enabled i _ = ⊥

-- why a hub takes nothing in: an unknown hub first, then one that has nothing to take in or no room at its readers, and memory
-- last
abbrev pub IsAcceptRefusal : ℕ → Bool → ℕ → Refusal → Type 0
IsAcceptRefusal count can i UnknownHub = count ≤ i
IsAcceptRefusal count can i NotEnabled = (i < count) × (can ≡ false)
IsAcceptRefusal count can i NoMemory = (i < count) × (can ≡ true)
IsAcceptRefusal count can i r = ⊥

-- why a hub is not made, where there are so many: its numbers first, then the limit, and memory last
abbrev pub IsHubRefusal : HubKind → ℕ → ℕ → Refusal → Type 0
IsHubRefusal kind capacity count (BadExpr k) = (k ≡ Number) × (are_numbers kind capacity ≡ false)
IsHubRefusal kind capacity count TooMany = (are_numbers kind capacity ≡ true) × (MOST_HUBS ≤ count)
IsHubRefusal kind capacity count NoMemory = (are_numbers kind capacity ≡ true) × (count < MOST_HUBS)
IsHubRefusal kind capacity count r = ⊥

-- the subscriber with this number asked for so many items
abbrev pub HasAsked : {T : Type 0} → List (Past T) → ℕ → ℕ → Type 0
HasAsked [] i n = ⊥
HasAsked (p ∷ ps) zero n = n ≡ p.asked
HasAsked (p ∷ ps) (suc i) n = HasAsked ps i n

-- the subscriber with this number has these joins
abbrev pub HasJoins : {T : Type 0} → List (Past T) → ℕ → List ℕ → Type 0
HasJoins [] i js = ⊥
HasJoins (p ∷ ps) zero js = js ≡ p.joins
HasJoins (p ∷ ps) (suc i) js = HasJoins ps i js

-- why a look at a subscription is refused
abbrev pub IsLookRefusal : ℕ → SubId → Refusal → Type 0
IsLookRefusal count i UnknownSub = count ≤ i.0
IsLookRefusal count i NoMemory = i.0 < count
IsLookRefusal count i _ = ⊥
