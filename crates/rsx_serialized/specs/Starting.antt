-- A graph is put behind a gate with an emitter for each hub that no feed feeds, and a tap for each subscription.
use Rattle.std.specs.Prelude.{◌≡◌, ℕ, zero, suc, ◌+◌, ◌-◌, ◌<◌, ◌≤◌, Bool, true, false, not, List, [], ◌∷◌, ◌++◌, length, map, min, Option, None, Some, slice_get}
use Rattle.rsx_demand.specs.declared.TheConstants.{UNBOUNDED}
use Rattle.rsx_types.specs.declared.ops.Ops.{Ghosts as Ops}
use Rattle.rsx_gate.specs.Machine.{founder}
use Rattle.rsx_gate.specs.Seats.{key_of}
use Rattle.rsx_graph.specs.InGraph.{state_of}
use Rattle.rsx_graph.specs.declared.graph.Graph.{Graph}
use Rattle.rsx_graph_state.specs.Stands.{place_of}
use Rattle.rsx_graph_state.specs.declared.TheConstants.{MOST_SUBSCRIPTIONS}
use Rattle.rsx_graph_state.specs.declared.feed.Feed.{Feed}
use Rattle.rsx_hub.specs.Hub.{HubState, accepted_items}
use Rattle.rsx_hub.specs.Waiting.{is_open}
use Rattle.rsx_link.specs.Ends.{asked_total, cancel_beside, cancel_parts, cancel_steps, carried_down, carried_up, items_sent, received_signals, seen_total, sent_signals}
use Rattle.rsx_runtime.specs.Standing.{opened_state}
use Rattle.rsx_runtime.specs.Tapping.{given}
use Rattle.rsx_runtime.specs.declared.emitter.Emitter.{Emitter}
use Rattle.rsx_runtime.specs.declared.tap.Tap.{Tap}
use Rattle.rsx_subscriber.specs.Stands.{standing_of}
use Rattle.rsx_subscriber.specs.declared.state.SubscriptionState.{SubscriptionState}
use Rattle.rsx_subscriber.specs.declared.state.SubscriptionState.TheVariants.{Cancelled, Ended, Open, Refused}
use Rattle.rsx_subscriber.specs.declared.subscription.Subscription.{Subscription}
use Rattle.rsx_serialized.specs.Ends.{Beside, BesideFew, is_flagged}
use Rattle.rsx_serialized.specs.Regions.{AreInletsOf, AreOutletsOf, AreSpare}
use Rattle.rsx_serialized.specs.Started.{AreEmittersOf, AreTapsOf, HaveRoom, IsStarted, opened}
use Rattle.rsx_serialized.specs.declared.emitter_links.EmitterLinks.{EmitterLinks}
use Rattle.rsx_serialized.specs.declared.ends.FromEmitter.{FromEmitter}
use Rattle.rsx_serialized.specs.declared.ends.ToTap.{ToTap}
use Rattle.rsx_serialized.specs.declared.links.EmitterLink.{EmitterLink}
use Rattle.rsx_serialized.specs.declared.links.TapLink.{TapLink}
use Rattle.rsx_serialized.specs.declared.starting.TheConstants.{MOST_PLACES}
use Rattle.rsx_serialized.specs.declared.starting.StartedGraph.{StartedGraph}
use Rattle.rsx_serialized.specs.declared.tap_links.TapLinks.{TapLinks}

-- ---- which hubs have an emitter

-- this number, where there is no place
abbrev pub where_none : Option ℕ → ℕ → List ℕ
where_none None n = n ∷ []
where_none (Some place) n = []

-- the numbers of those of so many hubs that no feed feeds, in rising order
abbrev pub unfed : {M : Type 0} → List (Feed M) → ℕ → List ℕ
unfed feeds zero = []
unfed feeds (suc n) = unfed feeds n ++ where_none (place_of feeds n) n

-- whether a subscription is open that stands so
abbrev pub is_open_state : SubscriptionState → Bool
is_open_state Open = true
is_open_state Ended = false
is_open_state Cancelled = false
is_open_state Refused = false

-- of the first so many of a list this holds with what stands beside them in the other list, which has no more
pub record BesideFirst {X Y : Type 0} (P : X → Y → Type 0) (n : ℕ) (xs : List X) (ys : List Y) : Type 0 where
  pub count : length ys ≡ n
  pub each : (k : ℕ) (x : X) (y : Y) → slice_get xs k ≡ Some x → slice_get ys k ≡ Some y → P x y

module _ {T : Type 0} where
  abbrev pub hub_number : Emitter T → ℕ
  hub_number e = e.hub.0

  -- ---- emitters

  -- An emitter that counts on from its hub: it has sent nothing, as many items were accepted as the hub has accepted, 2^63 - 1 may be, and
  -- the hub has ended for it exactly where an emitter ended it.
  pub record CountsOn (hubs : List (HubState T)) (e : Emitter T) : Type 0 where
    pub hub : HubState T
    pub there : slice_get hubs e.hub.0 ≡ Some hub
    pub nothing : sent_signals e.up ≡ []
    pub accepted : items_sent e.up ≡ min UNBOUNDED (accepted_items hub)
    pub most : seen_total e.up ≡ UNBOUNDED
    pub ended : e.ended ≡ not (is_open hub.ending)

  -- nothing came of an emitter
  abbrev pub NothingCame : FromEmitter T → Type 0
  NothingCame i = (received_signals i.down ≡ []) × (i.waiting ≡ None)

  -- the links of the emitters of so many hubs, with both ends of each, over which nothing went
  pub record AreEmitterLinks {M : Type 0} (hubs : List (HubState T)) (feeds : List (Feed M)) (n : ℕ) (o : EmitterLinks T) : Type 0 where
    pub inlets : AreInletsOf o.links.items o.inlets.items
    pub fresh : (k : ℕ) (i : FromEmitter T) → slice_get o.inlets.items k ≡ Some i → NothingCame i
    pub room : HaveRoom o.links.items
    pub emitters : AreEmittersOf o.links.items o.inlets.items o.emitters.items
    pub each : (k : ℕ) (e : Emitter T) → slice_get o.emitters.items k ≡ Some e → CountsOn hubs e
    pub numbers : map hub_number o.emitters.items ≡ unfed feeds n
    pub below : (k : ℕ) (i : FromEmitter T) → slice_get o.inlets.items k ≡ Some i → i.hub.0 < n
    pub few : length o.links.items ≤ n

  -- this one stands behind them
  pub record HasEmitterLink (old : EmitterLinks T) (x : EmitterLink T) (new : EmitterLinks T) : Type 0 where
    pub links : new.links.items ≡ old.links.items ++ x.link ∷ []
    pub emitters : new.emitters.items ≡ old.emitters.items ++ x.emitter ∷ []
    pub inlets : new.inlets.items ≡ old.inlets.items ++ x.inlet ∷ []

  -- ---- taps

  -- a tap that gave nothing and has the whole right to cancel, of a subscription that asked for so much and is open or not
  pub record TakesOver {M : Type 0} (s : Subscription M T) (t : Tap T) : Type 0 where
    pub gave : given t ≡ []
    pub state : t.state ≡ opened_state (is_open_state (standing_of s))
    pub asked : asked_total t.down ≡ s.demand.asked
    pub parts : cancel_parts t.seat ≡ 0 ∷ []
    pub steps : (cancel_steps t.seat ≡ []) × (cancel_beside t.seat ≡ [])

  -- the end that sends to it: so much was asked for, and no flag was seen
  pub record GoesOver {M : Type 0} (s : Subscription M T) (o : ToTap T) : Type 0 where
    pub asked : o.asked ≡ s.demand.asked
    pub flags : is_flagged o.up ≡ false

  -- that of a subscription to come: nothing was asked for, and no flag was seen
  abbrev pub IsUnasked : ToTap T → Type 0
  IsUnasked o = (o.asked ≡ 0) × (is_flagged o.up ≡ false)

  -- both count on from the same number of items
  abbrev pub CarryAlike : List (ToTap T) → List (Tap T) → Type 0
  CarryAlike outlets taps = BesideFew (λ k (o : ToTap T) (t : Tap T). carried_down t.down ≡ carried_up o.up) outlets taps

  -- the links of the taps of so many subscriptions, and behind them those for so many to come, with both ends of each, over which nothing went
  pub record AreTapLinks {M : Type 0} (subs : List (Subscription M T)) (n places : ℕ) (o : TapLinks T) : Type 0 where
    pub outlets : AreOutletsOf o.links.items o.outlets.items
    pub fresh : (k : ℕ) (p : ToTap T) → slice_get o.outlets.items k ≡ Some p → sent_signals p.up ≡ []
    pub room : HaveRoom o.links.items
    pub taps : AreTapsOf o.links.items o.taps.items
    pub carry : CarryAlike o.outlets.items o.taps.items
    pub each : BesideFirst TakesOver n subs o.taps.items
    pub ends : (k : ℕ) (s : Subscription M T) (p : ToTap T) → k < n → slice_get subs k ≡ Some s → slice_get o.outlets.items k ≡ Some p → GoesOver s p
    pub spare : AreSpare o.links.items n o.spare.items
    pub count : length o.spare.items ≡ places
    pub others : (k : ℕ) (p : ToTap T) → n ≤ k → slice_get o.outlets.items k ≡ Some p → IsUnasked p

  -- this one stands behind them
  pub record HasTapLink (old : TapLinks T) (x : TapLink T) (new : TapLinks T) : Type 0 where
    pub links : new.links.items ≡ old.links.items ++ x.link ∷ []
    pub taps : new.taps.items ≡ old.taps.items ++ x.tap ∷ []
    pub outlets : new.outlets.items ≡ old.outlets.items ++ x.outlet ∷ []
    pub spare : new.spare.items ≡ old.spare.items

  -- so it does for a subscription to come
  pub record HasPlace (old : TapLinks T) (x : TapLink T) (new : TapLinks T) : Type 0 where
    pub links : new.links.items ≡ old.links.items ++ x.link ∷ []
    pub taps : new.taps.items ≡ old.taps.items
    pub outlets : new.outlets.items ≡ old.outlets.items ++ x.outlet ∷ []
    pub spare : new.spare.items ≡ old.spare.items ++ x.tap ∷ []

module _ {O T : Type 0} {b : Ops O T} where
  -- so many links are opened for subscriptions to come, where so many are wanted: as many as a graph has room for, 64 at most
  abbrev pub places_in : Graph O T b → ℕ → ℕ
  places_in graph wanted = min wanted (min MOST_PLACES (MOST_SUBSCRIPTIONS - length graph.subscriptions.items))

  -- That graph was put behind a gate, whose seat has made no step. There is an emitter for each hub that no feed feeds, and no other, and a
  -- tap for each subscription. They count on from what the hubs accepted and the subscribers asked for. There are links for so many
  -- subscriptions to come.
  pub record IsStartedOf (graph : Graph O T b) (places : ℕ) (s : StartedGraph O T b) : Type 0 where
    pub started : IsStarted s
    pub functions : (opened s.graph).graph.ops ≡ graph.ops
    pub state : state_of (opened s.graph).graph ≡ state_of graph
    pub first : s.seat.me.0 ≡ founder (key_of s.graph.gate)
    pub hubs : map hub_number s.emitters.items ≡ unfed graph.feeds.items (length graph.hubs.items)
    pub emitters : (k : ℕ) (e : Emitter T) → slice_get s.emitters.items k ≡ Some e → CountsOn graph.hubs.items e
    pub taps : Beside (λ k. TakesOver) graph.subscriptions.items s.taps.items
    pub outlets : BesideFew (λ k (o : ToTap T) x. GoesOver x o) (opened s.graph).outlets.items graph.subscriptions.items
    pub links : length s.graph.links.taps.items ≡ length graph.subscriptions.items + places
    pub ends : length (opened s.graph).outlets.items ≡ length graph.subscriptions.items + places
    pub others : (k : ℕ) (o : ToTap T) → length graph.subscriptions.items ≤ k → slice_get (opened s.graph).outlets.items k ≡ Some o → IsUnasked o
    pub carry : CarryAlike (opened s.graph).outlets.items s.taps.items

  -- the graph comes back as it was
  abbrev pub ComesBack : Graph O T b → Graph O T b → Type 0
  ComesBack graph back = (back.ops ≡ graph.ops) × (state_of back ≡ state_of graph)
