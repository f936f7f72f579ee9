-- The runs of subscriptions to one expression, and what is recorded of them.
use Rattle.rsx_graph.specs.Kinds.{Subscription, IsSubscribed, IsCancelledAt, IsRequestedAt, HasEnded, LeadTo, IsFedHubMade}
use Rattle.std.specs.Prelude.{◌≡◌, ◌⊎◌, ℕ, ℤ, ◌≤◌, List, [], ◌∷◌, ◌++◌, length, map, Option, Ok}
use Rattle.std.specs.List.{flat_map}
use Rattle.rsx_tck.specs.declared.event.Event.TheVariants as event
use Rattle.rsx_tck.specs.declared.event.Stamped.{Stamped}
use Rattle.rsx_types.specs.Meaning.{Meaning}
use Rattle.rsx_types.specs.declared.names.HubKind.TheVariants.{Multicast}
use Rattle.rsx_types.specs.declared.names.SubId.{SubId}
use Rattle.rsx_types.specs.declared.signal.Signal.{Signal}
use Rattle.rsx_subscriber.specs.Prelude.{Expr, Hub, region_of, cancelled, requested}
use Rattle.rsx_graph_state.specs.Prelude.{HubState, HaveJoined, History}
use Rattle.rsx_graph_state.specs.declared.step.Pumped.{Pumped}
use Rattle.rsx_graph_moves.specs.Pumped.{Made, after_moves, delivered_by}
use Rattle.rsx_graph_calls.specs.Edits.{with_fed_hub}
use Rattle.rsx_tree.specs.Runs.{Leads}
use Rattle.rsx_graph_calls.specs.Requests.{with_past}
use Rattle.rsx_graph.specs.Stands.{AreJoinsSame, GraphStands, GraphState, IsAsideSame}
use Rattle.rsx_graph_calls.specs.Subscribing.{with_subscriber}
use Rattle.rsx_graph.specs.Steps.{no_history}
use Rattle.rsx_verify.specs.declared.act.Act.{Act}
use Rattle.rsx_verify.specs.declared.act.Act.TheVariants.{Request, Cancel, Pump}
use Rattle.rsx_verify.specs.declared.TheConstants.{BUDGET, CAPACITY}
use Rattle.rsx_verify.specs.Events.{stamped, deliveries, answered, beginning}

-- the subscriber with this number
abbrev pub subscriber : ℕ → SubId
subscriber i = record { 0 = i }

-- a request of n by a subscriber, what it answered, and what was recorded of both: the request before its effect
pub record IsRequestOf {T : Type 0} (m : Meaning T) (i : SubId) (n : ℤ) (old : GraphState T) (events : List Stamped) (new : GraphState T) : Type 0 where
  pub answer : Option (Signal T)
  pub effect : IsRequestedAt i.0 n old.rows.subs new.rows.subs answer
  pub aside : IsAsideSame old new
  pub stands : (h : History T) → GraphStands m old h → GraphStands m new (with_past (requested n) i h)
  pub recorded : events ≡ stamped (event.Request i.0 n) ∷ answered i answer

-- a cancel by a subscriber, and what was recorded of it
pub record IsCancelOf {T : Type 0} (m : Meaning T) (i : SubId) (old : GraphState T) (events : List Stamped) (new : GraphState T) : Type 0 where
  pub effect : IsCancelledAt i.0 old.rows.subs new.rows.subs
  pub aside : IsAsideSame old new
  pub stands : (h : History T) → GraphStands m old h → GraphStands m new (with_past cancelled i h)
  pub recorded : events ≡ stamped (event.Cancel i.0) ∷ []

-- enabled moves, until none is enabled or the budget is spent, and what was recorded of what they delivered, on this worker
pub record IsPumpOf {T : Type 0} (m : Meaning T) (w : ℕ) (old : GraphState T) (events : List Stamped) (new : GraphState T) : Type 0 where
  pub moves : List (Made T)
  pub lead : LeadTo m old.rows moves new.rows
  pub same : AreJoinsSame old new
  pub stands : (h : History T) → GraphStands m old h → GraphStands m new (after_moves h moves)
  pub end : Pumped
  pub ended : HasEnded m BUDGET (length moves) new.rows (Ok end)
  pub recorded : events ≡ deliveries w (delivered_by moves)

-- there is no such subscriber: nothing happened, and nothing was recorded
abbrev pub IsPassedOver : {T : Type 0} → SubId → GraphState T → List Stamped → GraphState T → Type 0
IsPassedOver i old events new = (length old.rows.subs ≤ i.0) × (events ≡ []) × (new ≡ old)

-- an act led from one graph to the other, and these events were recorded of it: signals that moves delivered on this worker, all
-- else on worker 0
abbrev pub IsActed : {T : Type 0} → Meaning T → ℕ → Act → GraphState T → List Stamped → GraphState T → Type 0
IsActed m w (Request i n) old events new = IsRequestOf m i n old events new ⊎ IsPassedOver i old events new
IsActed m w (Cancel i) old events new = IsCancelOf m i old events new ⊎ IsPassedOver i old events new
IsActed m w Pump old events new = IsPumpOf m w old events new

-- an act, and what was recorded of it
pub record Acted : Type 0 where
  pub act : Act
  pub events : List Stamped

abbrev pub IsActedAs : {T : Type 0} → Meaning T → ℕ → GraphState T → Acted → GraphState T → Type 0
IsActedAs m w old done new = IsActed m w done.act old done.events new

-- the acts led from one graph to the other, one after the other, and what was recorded of them, in their order, stands behind the
-- first events
pub record IsFollowedTo {T : Type 0} (m : Meaning T) (w : ℕ) (old : GraphState T) (acts : List Act) (first events : List Stamped) (new : GraphState T) : Type 0 where
  pub done : List Acted
  pub acts_are : acts ≡ map (λ d. d.act) done
  pub lead : Leads (IsActedAs m w) old done new
  pub recorded : events ≡ first ++ flat_map (λ d. d.events) done

abbrev pub IsFollowed : {T : Type 0} → Meaning T → ℕ → GraphState T → List Act → List Stamped → List Stamped → Type 0
IsFollowed {T} m w old acts first events = (new : GraphState T) × IsFollowedTo m w old acts first events new

-- ---- one subscription

-- a fresh graph with one subscription, to this expression
pub record IsBegun {T : Type 0} (m : Meaning T) (e : Expr T) (g : GraphState T) : Type 0 where
  pub subscribed : IsSubscribed e [] g.rows.subs
  pub stands : GraphStands m g (with_subscriber e no_history)

-- these events were recorded of a run with these acts: a fresh graph subscribed to the expression, and then they were done. What
-- moves deliver is delivered in the region of the expression
abbrev pub IsRecorded : {T : Type 0} → Meaning T → Expr T → List Act → List Stamped → Type 0
IsRecorded {T} m e acts events = (fresh : GraphState T) × (IsBegun m e fresh × IsFollowed m (region_of e) fresh acts (beginning 0) events)

-- ---- two subscriptions to a hub that the expression feeds

-- what is published at the first hub
abbrev pub reader : {T : Type 0} → Expr T
reader = Hub (record { 0 = 0 })

-- a fresh graph with a hub of the processor's capacity that this expression feeds, and with two subscriptions to the hub
pub record IsProcessing {T : Type 0} (m : Meaning T) (e : Expr T) (g : GraphState T) : Type 0 where
  pub hubs : List (HubState T)
  pub joined : List (HubState T)
  pub subs : List (Subscription T)
  pub fed : IsFedHubMade Multicast CAPACITY e [] hubs [] g.rows.feeds
  pub first : IsSubscribed reader [] subs
  pub first_joined : HaveJoined reader hubs joined
  pub second : IsSubscribed reader subs g.rows.subs
  pub second_joined : HaveJoined reader joined g.rows.hubs
  pub stands : GraphStands m g (with_subscriber reader (with_subscriber reader (with_fed_hub Multicast e no_history)))

-- these events were recorded of a run of a processor with these acts
abbrev pub IsProcessed : {T : Type 0} → Meaning T → Expr T → List Act → List Stamped → Type 0
IsProcessed {T} m e acts events =
    (fresh : GraphState T) × (IsProcessing m e fresh × IsFollowed m (region_of {T = T} reader) fresh acts (beginning 0 ++ beginning 1) events)
