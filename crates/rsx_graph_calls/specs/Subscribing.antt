-- A subscription more in a graph with feeds: what has happened by it, and why it is refused.
use Rattle.std.specs.Prelude.{◌≡◌, ℕ, ◌<◌, true, List, [], ◌∷◌, ◌++◌, length, None, Some}
use Rattle.rsx_graph_state.specs.Prelude.{History, AreTooMany, have_places, HubState}
use Rattle.rsx_graph_state.specs.declared.TheConstants.{MOST_SUBSCRIPTIONS}
use Rattle.rsx_graph_state.specs.declared.refusal.Refusal.{Refusal}
use Rattle.rsx_graph_state.specs.declared.refusal.Refusal.TheVariants.{TooMany, BadExpr, NoMemory}
use Rattle.rsx_subscriber.specs.Prelude.{refusal, Expr, subscribed}
use Rattle.rsx_graph_calls.specs.Edits.{joins_in}

-- a subscription to an expression was made, whose leaves joined the hubs
abbrev pub with_subscriber : {T : Type 0} → Expr T → History T → History T
with_subscriber e h = record { hubs = h.hubs; pasts = h.pasts ++ subscribed e (joins_in h e) ∷ [] }

-- why a subscription is refused, where there are so many: the expression first, then the limits (of subscriptions, and of a hub's
-- members), and memory last
abbrev pub IsSubscribeRefusal : {T : Type 0} → Expr T → List (HubState T) → ℕ → Refusal → Type 0
IsSubscribeRefusal e hubs count (BadExpr k) = refusal (length hubs) e ≡ Some k
IsSubscribeRefusal e hubs count TooMany = (refusal (length hubs) e ≡ None) × AreTooMany e hubs count
IsSubscribeRefusal e hubs count NoMemory = (refusal (length hubs) e ≡ None) × (count < MOST_SUBSCRIPTIONS) × (have_places 0 e hubs ≡ true)
IsSubscribeRefusal e hubs count r = ⊥
