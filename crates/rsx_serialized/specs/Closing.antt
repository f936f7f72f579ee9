-- A graph that came back from behind its gate gives its links up.
use Rattle.std.specs.Prelude.{◌≡◌, ⊤, ℕ, suc, ◌+◌, ◌*◌, ◌<◌, ◌≤◌, Bool, true, ◌||◌, nat_eq, if◌then◌else◌, List, [], ◌∷◌, ◌++◌, length, map, Some, slice_get}
use Rattle.std.specs.List.{flat_map}
use Rattle.std.specs.Vec.{vec_capacity}
use Rattle.rsx_types.specs.Meaning.{Meaning}
use Rattle.rsx_types.specs.declared.limits.TheConstants.{CAPACITY}
use Rattle.rsx_types.specs.declared.names.HubId.{HubId}
use Rattle.rsx_types.specs.declared.names.SubId.{SubId}
use Rattle.rsx_types.specs.declared.ops.Ops.{Ghosts as Ops}
use Rattle.rsx_types.specs.declared.signal.Signal.{Signal}
use Rattle.rsx_link.specs.Ends.{AreEnds, IsUpOf, asked_total, cancel_parts, cancels_of, capacity_of, down_steps, received_signals, sent_signals}
use Rattle.rsx_link.specs.Link.{is_positive}
use Rattle.rsx_link.specs.Parts.{IsWhole}
use Rattle.rsx_link.specs.Steps.{is_refused}
use Rattle.rsx_link.specs.declared.link.Link.{Link}
use Rattle.rsx_graph.specs.InGraph.{state_of}
use Rattle.rsx_graph.specs.Rows.{History}
use Rattle.rsx_graph.specs.Stands.{GraphState}
use Rattle.rsx_runtime.specs.Tapping.{IsTapOf}
use Rattle.rsx_runtime.specs.declared.emitter.Emitter.{Emitter}
use Rattle.rsx_runtime.specs.declared.tap.Tap.{Tap}
use Rattle.rsx_serialized.specs.Ends.{IsPassedOn, held, is_flagged}
use Rattle.rsx_serialized.specs.Events.{AreKnown, Event, asked_in, given_in, published_in, signals_for, stopped_in, subscribed_in}
use Rattle.rsx_serialized.specs.Opened.{HasStopped}
use Rattle.rsx_serialized.specs.Regions.{AreEndsOf, StandsSince}
use Rattle.rsx_serialized.specs.Resting.{IsNotTaken}
use Rattle.rsx_serialized.specs.Since.{AreSince}
use Rattle.rsx_serialized.specs.Started.{AreEmittersOf, AreTapsOf, HaveRoom, IsFresh}
use Rattle.rsx_serialized.specs.Told.{asks, publishes, stops}
use Rattle.rsx_serialized.specs.declared.closing.Closed.{Closed}
use Rattle.rsx_serialized.specs.declared.closing.Room.{Room}
use Rattle.rsx_serialized.specs.declared.closing.Stopped.{Stopped}
use Rattle.rsx_serialized.specs.declared.ends.FromEmitter.{FromEmitter}
use Rattle.rsx_serialized.specs.declared.ends.ToTap.{ToTap}
use Rattle.rsx_serialized.specs.declared.region.GraphRegion.{GraphRegion}

-- each of these signals with a name in front
abbrev pub named : {A T : Type 0} → A → List (Signal T) → List (A × Signal T)
named a ss = map (λ s. (a, s)) ss

-- a link and another thing stand in front of these lists
pub record HasFirst {T Y : Type 0} (ls : List (Link T)) (ys : List Y) : Type 0 where
  pub link : Link T
  pub links : List (Link T)
  pub other : Y
  pub others : List Y
  pub link_first : ls ≡ link ∷ links
  pub other_first : ys ≡ other ∷ others

module _ {T : Type 0} where
  -- those of these signals that came for this hub
  abbrev pub signal_at : ℕ → HubId × Signal T → List (Signal T)
  signal_at k d = if nat_eq d.0.0 k then d.1 ∷ [] else []

  abbrev pub signals_at : ℕ → List (HubId × Signal T) → List (Signal T)
  signals_at k ds = flat_map (signal_at k) ds

  -- ---- the links of emitters are closed

  -- both ends of a link, and the right to cancel it
  pub record IsEmitterEnd (i : FromEmitter T) (l : Link T) (e : Emitter T) : Type 0 where
    pub ends : AreEnds l e.up i.down i.seat
    pub room : capacity_of l ≤ CAPACITY

  -- of each of these links
  abbrev pub AreEmitterEnds : List (FromEmitter T) → List (Link T) → List (Emitter T) → Type 0
  AreEmitterEnds [] ls es = (ls ≡ []) × (es ≡ [])
  AreEmitterEnds (i ∷ is) ls es = (h : HasFirst ls es) × IsEmitterEnd i h.link h.other × AreEmitterEnds is h.links h.others

  -- the hub did not take the first of these, where there is one
  abbrev pub IsFirstRefused : GraphState T → HubId → List (Signal T) → Type 0
  IsFirstRefused g hub [] = ⊤
  IsFirstRefused g hub (s ∷ ss) = IsNotTaken g hub s

  -- Of these signals the first were published at the hub, one after the other, and the rest was put behind what was in a list: the hub did
  -- not take the first of it.
  pub record Publishes (m : Meaning T) (hub : HubId) (all : List (Signal T)) (old new : GraphState T) (before after : List (HubId × Signal T)) : Type 0 where
    pub taken : List (Signal T)
    pub rest : List (Signal T)
    pub parts : all ≡ taken ++ rest
    pub stands : StandsSince m (publishes hub taken) old new
    pub put : after ≡ before ++ named hub rest
    pub refused : IsFirstRefused new hub rest

  -- so it is of what remained on the link of an emitter
  pub record EmitterCloses (m : Meaning T) (i : FromEmitter T) (e : Emitter T) (old new : GraphState T) (before after : List (HubId × Signal T)) : Type 0 where
    pub remaining : List (Signal T)
    pub sent : received_signals i.down ++ remaining ≡ sent_signals e.up
    pub ends : Publishes m i.hub (held i ++ remaining) old new before after

  -- What the emitter sent and its hub did not take stands in front of the others. What the hub took was published.
  pub record EmitterLeft (gs : List (Event T)) (more : List (HubId × Signal T)) (i : FromEmitter T) (e : Emitter T) : Type 0 where
    pub remaining : List (Signal T)
    pub sent : received_signals i.down ++ remaining ≡ sent_signals e.up
    pub taken : List (Signal T)
    pub rest : List (Signal T)
    pub parts : held i ++ remaining ≡ taken ++ rest
    pub state : GraphState T
    pub refused : IsFirstRefused state i.hub rest
    pub others : List (HubId × Signal T)
    pub left : more ≡ named i.hub rest ++ others
    pub later : List (Event T)
    pub told : gs ≡ publishes i.hub taken ++ later

  -- so it is of each, one after the other
  abbrev pub AllEmittersLeft : List (Event T) → List (HubId × Signal T) → List (FromEmitter T) → List (Emitter T) → Type 0
  AllEmittersLeft gs more [] es = (gs ≡ []) × (more ≡ []) × (es ≡ [])
  AllEmittersLeft gs more (i ∷ is) [] = ⊥
  AllEmittersLeft gs more (i ∷ is) (e ∷ es) = (x : EmitterLeft gs more i e) × AllEmittersLeft x.later x.others is es

  -- and the graph went on by what was published
  pub record EmittersClose (m : Meaning T) (is : List (FromEmitter T)) (es : List (Emitter T)) (old new : GraphState T) (before after : List (HubId × Signal T)) : Type 0 where
    pub events : List (Event T)
    pub stands : StandsSince m events old new
    pub more : List (HubId × Signal T)
    pub put : after ≡ before ++ more
    pub left : AllEmittersLeft events more is es

  -- ---- the links of taps are closed

  pub record IsTapEnd (o : ToTap T) (l : Link T) (t : Tap T) : Type 0 where
    pub end : IsUpOf l o.up
    pub passed : IsPassedOn o
    pub tap : IsTapOf l t
    pub room : capacity_of l ≤ CAPACITY

  -- of each of these taps: there may be more links, of subscriptions that were never made
  abbrev pub AreTapEnds : List (ToTap T) → List (Link T) → List (Tap T) → Type 0
  AreTapEnds os ls [] = ⊤
  AreTapEnds os ls (t ∷ ts) = (h : HasFirst ls os) × IsTapEnd h.other h.link t × AreTapEnds h.others h.links ts

  -- Whether a flag of the link was set, as far as its ends know: where some seat cancelled that was taken back, or a bad request was made, it
  -- was; and where all seats were taken back, nowhere else.
  pub record IsStoppedBy (t : Tap T) (stopped : Bool) : Type 0 where
    pub cancelled : 0 < cancels_of t.seat → stopped ≡ true
    pub refused : is_refused (down_steps t.down) ≡ true → stopped ≡ true
    pub whole : IsWhole (cancel_parts t.seat) → stopped ≡ (is_positive (cancels_of t.seat) || is_refused (down_steps t.down))

  -- What was delivered to the subscription with this number, and its tap did not take, stands in front of the others. The graph was told
  -- what the tap had asked for, and whether a flag was set.
  pub record TapLeft (at : ℕ) (fs : List (Event T)) (more : List (SubId × Signal T)) (o : ToTap T) (t : Tap T) : Type 0 where
    pub sub : SubId
    pub is : sub.0 ≡ at
    pub rest : List (Signal T)
    pub sent : received_signals t.down ++ rest ≡ sent_signals o.up
    pub items : ℕ
    pub asked : asked_total t.down ≡ o.asked + items
    pub stopped : Bool
    pub why : IsStoppedBy t stopped
    pub seen : is_flagged o.up ≡ true → stopped ≡ true
    pub others : List (SubId × Signal T)
    pub left : more ≡ named sub rest ++ others
    pub later : List (Event T)
    pub told : fs ≡ (asks sub items ++ stops sub stopped) ++ later

  abbrev pub AllTapsLeft : ℕ → List (Event T) → List (SubId × Signal T) → List (ToTap T) → List (Tap T) → Type 0
  AllTapsLeft at fs more os [] = (fs ≡ []) × (more ≡ [])
  AllTapsLeft at fs more [] (t ∷ ts) = ⊥
  AllTapsLeft at fs more (o ∷ os) (t ∷ ts) = (x : TapLeft at fs more o t) × AllTapsLeft (suc at) x.later x.others os ts

  -- so it is of the subscriptions from this number on, and the graph went on by what it was told
  pub record TapsClose (m : Meaning T) (at : ℕ) (os : List (ToTap T)) (ts : List (Tap T)) (old new : GraphState T) (before after : List (SubId × Signal T)) : Type 0 where
    pub events : List (Event T)
    pub stands : StandsSince m events old new
    pub more : List (SubId × Signal T)
    pub put : after ≡ before ++ more
    pub left : AllTapsLeft at events more os ts

  -- of one of them
  pub record TapCloses (m : Meaning T) (sub : SubId) (o : ToTap T) (t : Tap T) (old new : GraphState T) (before after : List (SubId × Signal T)) : Type 0 where
    pub rest : List (Signal T)
    pub sent : received_signals t.down ++ rest ≡ sent_signals o.up
    pub items : ℕ
    pub asked : asked_total t.down ≡ o.asked + items
    pub stopped : Bool
    pub why : IsStoppedBy t stopped
    pub seen : is_flagged o.up ≡ true → stopped ≡ true
    pub stands : StandsSince m (asks sub items ++ stops sub stopped) old new
    pub put : after ≡ before ++ named sub rest

  -- ---- what has happened since the gate was opened

  -- At a hub was published what its emitter sent, but for what is left of that. The hub did not take the first of it.
  pub record EmitterSince (es : List (Event T)) (unpublished : List (HubId × Signal T)) (e : Emitter T) : Type 0 where
    pub sent : sent_signals e.up ≡ published_in e.hub.0 es ++ signals_at e.hub.0 unpublished
    pub state : GraphState T
    pub refused : IsFirstRefused state e.hub (signals_at e.hub.0 unpublished)

  -- A subscriber received what its tap took and what that left, asked for what its tap asked for, and was cancelled where its tap or a
  -- canceller cancelled, or its tap made a bad request: where all cancellers were taken back, nowhere else.
  pub record TapSince (k : ℕ) (es : List (Event T)) (untaken : List (SubId × Signal T)) (o : ToTap T) (t : Tap T) : Type 0 where
    pub received : given_in k es ≡ received_signals t.down ++ signals_for k untaken
    pub asked : asked_in k o.asked es ≡ asked_total t.down
    pub stopped : IsStoppedBy t (stopped_in k es)

module _ {O T : Type 0} {b : Ops O T} where
  -- A graph came back that was behind a gate, and its links were closed. These things have happened to it: at each hub was published what its
  -- emitter sent, but for what is left of that; each subscriber received what its tap took, and what is left of that. So it is of those whose
  -- subscriptions were made since, too: a tap is there for each.
  pub record IsClosedSince (opening : GraphRegion O T b) (es : List (Emitter T)) (ts : List (Tap T)) (c : Closed O T b) : Type 0 where
    pub events : List (Event T)
    pub ops : c.graph.ops ≡ opening.graph.ops
    pub stands : StandsSince (b.meaning opening.graph.ops) events (state_of opening.graph) (state_of c.graph)
    pub emitters : (k : ℕ) (e : Emitter T) → slice_get es k ≡ Some e → EmitterSince events c.unpublished.items e
    pub taps : (k : ℕ) (o : ToTap T) (t : Tap T) → slice_get opening.outlets.items k ≡ Some o → slice_get ts k ≡ Some t → TapSince k events c.untaken.items o t
    pub since : (h : History T) → AreSince events h
    pub known : AreKnown (length (state_of opening.graph).joins) events
    pub subs : length ts ≡ length (state_of opening.graph).joins + length (subscribed_in events)

  -- the tap of each subscription is there
  abbrev pub HasAllTaps : Stopped O T b → Type 0
  HasAllTaps s = length s.taps.items ≡ length (state_of s.region.graph).joins

  -- all ends of a graph's links are there, but maybe for taps
  pub record AreAllThere (s : Stopped O T b) : Type 0 where
    pub ends : AreEndsOf s.links s.region
    pub emitters : AreEmittersOf s.links.emitters.items s.region.inlets.items s.emitters.items
    pub taps : AreTapsOf s.links.taps.items s.taps.items
    pub emitter_room : HaveRoom s.links.emitters.items
    pub tap_room : HaveRoom s.links.taps.items

  -- the lists are empty, and have room for all that may be left of the links
  pub record HaveRoomFor (s : Stopped O T b) (r : Room T) : Type 0 where
    pub none : (r.untaken.items ≡ []) × (r.unpublished.items ≡ [])
    pub untaken : length s.taps.items * CAPACITY + length s.region.pending.items ≤ vec_capacity r.untaken
    pub unpublished : length s.emitters.items * (CAPACITY + 1) ≤ vec_capacity r.unpublished

  -- whatever its gate was opened with, so it closed
  abbrev pub HasClosed : Stopped O T b → Closed O T b → Type 0
  HasClosed s c = (opening : GraphRegion O T b) → HasStopped s.links opening s.region → IsFresh s.links opening → IsClosedSince opening s.emitters.items s.taps.items c
