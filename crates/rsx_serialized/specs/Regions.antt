-- A graph between its links.
use Rattle.std.specs.Prelude.{◌≡◌, ◌++◌, ℕ, ◌+◌, Bool, true, ◌<◌, List, [], ◌∷◌, length, Some, slice_get}
use Rattle.rsx_types.specs.Meaning.{Meaning}
use Rattle.rsx_types.specs.declared.names.SubId.{SubId}
use Rattle.rsx_types.specs.declared.ops.Ops.{Ghosts as Ops}
use Rattle.rsx_types.specs.declared.signal.Signal.{Signal}
use Rattle.rsx_link.specs.Ends.{IsCancelSeatOf, IsDownOf, IsUpOf, asked_total, cancel_beside, cancel_parts, cancel_steps, received_signals}
use Rattle.rsx_link.specs.declared.link.Link.{Link}
use Rattle.rsx_graph.specs.InGraph.{state_of}
use Rattle.rsx_graph.specs.Rows.{History}
use Rattle.rsx_graph.specs.Stands.{GraphStands, GraphState}
use Rattle.rsx_runtime.specs.Tapping.{IsTapOf, given}
use Rattle.rsx_runtime.specs.declared.tap.Tap.{Tap}
use Rattle.rsx_runtime.specs.declared.tap.Tapped.TheVariants.{Open}
use Rattle.rsx_serialized.specs.Ends.{Beside, InletGoes, IsPassedOn, OutletGoes, held}
use Rattle.rsx_serialized.specs.Events.{AreFor, AreKnown, Event, after_events, subscribed_in}
use Rattle.rsx_serialized.specs.Told.{publishes}
use Rattle.rsx_serialized.specs.declared.ends.FromEmitter.{FromEmitter}
use Rattle.rsx_serialized.specs.declared.ends.ToTap.{ToTap}
use Rattle.rsx_serialized.specs.declared.region.GraphRegion.{GraphRegion}
use Rattle.rsx_serialized.specs.declared.region.Links.{Links}

module _ {T : Type 0} where
  -- each end that takes from an emitter is that of the link at its place, and no two publish at one hub
  pub record AreInletsOf (links : List (Link T)) (inlets : List (FromEmitter T)) : Type 0 where
    pub ends : Beside (λ k l (i : FromEmitter T). IsDownOf l i.down × IsCancelSeatOf l i.seat) links inlets
    pub apart : (j k : ℕ) (a b : FromEmitter T) → slice_get inlets j ≡ Some a → slice_get inlets k ≡ Some b → a.hub.0 ≡ b.hub.0 → j ≡ k

  -- each end that sends to a tap is that of the link at its place, and what was asked for was passed on
  abbrev pub AreOutletsOf : List (Link T) → List (ToTap T) → Type 0
  AreOutletsOf links outlets = Beside (λ k l (o : ToTap T). IsUpOf l o.up × IsPassedOn o) links outlets

  -- of each history for which a graph stood before, it stands now for that history with these things
  abbrev pub StandsSince : Meaning T → List (Event T) → GraphState T → GraphState T → Type 0
  StandsSince m es old new = (h : History T) → GraphStands m old h → GraphStands m new (after_events h es)

  -- the ends that send, with what waits to be sent: these things have happened to the subscribers
  abbrev pub OutletsGo : List (Event T) → List (SubId × Signal T) → List (SubId × Signal T) → List (ToTap T) → List (ToTap T) → Type 0
  OutletsGo es before after old new = Beside (λ k. OutletGoes k es before after) old new

  -- A tap of the subscription with this number, over the link with it, that was handed out to no one or just now: it gave nothing, requested
  -- nothing, and has the whole right to cancel, by which nothing was cancelled.
  pub record IsSpare (k : ℕ) (l : Link T) (t : Tap T) : Type 0 where
    pub names : (t.sub.0 ≡ k) × (t.link ≡ k)
    pub takes : IsTapOf l t × (given t ≡ []) × (t.state ≡ Open)
    pub asked : asked_total t.down ≡ 0
    pub seat : (cancel_parts t.seat ≡ 0 ∷ []) × (cancel_steps t.seat ≡ []) × (cancel_beside t.seat ≡ [])

  -- the taps of the links from this number on, one for each, in their order
  pub record AreSpare (links : List (Link T)) (n : ℕ) (spare : List (Tap T)) : Type 0 where
    pub count : n + length spare ≡ length links
    pub each : (k : ℕ) (l : Link T) (t : Tap T) → slice_get links (n + k) ≡ Some l → slice_get spare k ≡ Some t → IsSpare (n + k) l t

  -- signals that came over an emitter's link were published at its hub, but for one that waits; and some were, where this says so
  pub record TakesIn (taken : Bool) (m : Meaning T) (before : GraphState T) (old : FromEmitter T) (after : GraphState T) (new : FromEmitter T) : Type 0 where
    pub signals : List (Signal T)
    pub stands : StandsSince m (publishes old.hub signals) before after
    pub hub : new.hub ≡ old.hub
    pub came : List (Signal T)
    pub received : received_signals new.down ≡ received_signals old.down ++ came
    pub published : held old ++ came ≡ signals ++ held new
    pub some : taken ≡ true → 0 < length signals
    pub seat : new.seat ≡ old.seat

module _ {O T : Type 0} {b : Ops O T} where
  -- The ends are those of the links. There is one that sends for each subscription, and others for those to come, whose taps were handed out
  -- to no one.
  pub record AreEndsOf (links : Links T) (r : GraphRegion O T b) : Type 0 where
    pub inlets : AreInletsOf links.emitters.items r.inlets.items
    pub outlets : AreOutletsOf links.taps.items r.outlets.items
    pub spare : AreSpare links.taps.items (length (state_of r.graph).joins) r.spare.items

  -- these things have happened to a graph, between its links
  pub record GoesBy (m : Meaning T) (es : List (Event T)) (old new : GraphRegion O T b) : Type 0 where
    pub ops : new.graph.ops ≡ old.graph.ops
    pub stands : StandsSince m es (state_of old.graph) (state_of new.graph)
    pub inlets : Beside (λ k. InletGoes es) old.inlets.items new.inlets.items
    pub outlets : OutletsGo es old.pending.items new.pending.items old.outlets.items new.outlets.items
    -- as many subscriptions more are there, and nothing is said of one that was not there by then
    pub subs : length (state_of new.graph).joins ≡ length (state_of old.graph).joins + length (subscribed_in es)
    pub events : AreKnown (length (state_of old.graph).joins) es
    -- each signal that waits goes to a subscription that is there, where that was so
    pub known : AreFor (length (state_of old.graph).joins) old.pending.items → AreFor (length (state_of new.graph).joins) new.pending.items

  -- some have
  abbrev pub Goes : Meaning T → GraphRegion O T b → GraphRegion O T b → Type 0
  Goes m old new = (es : List (Event T)) × GoesBy m es old new

  -- the region goes on between its links
  abbrev pub GoesOn : Links T → GraphRegion O T b → GraphRegion O T b → Type 0
  GoesOn links old new = AreEndsOf links new × Goes (b.meaning old.graph.ops) old new
