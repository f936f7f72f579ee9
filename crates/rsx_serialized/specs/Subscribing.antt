-- An expression is subscribed to while other threads have a graph's emitters and taps.
use Rattle.std.specs.Prelude.{◌≡◌, ⊤, ℕ, ◌<◌, List, [], ◌∷◌, ◌++◌, length, Result, Ok, Err}
use Rattle.rsx_types.specs.declared.names.SubId.{SubId}
use Rattle.rsx_types.specs.declared.ops.Ops.{Ghosts as Ops}
use Rattle.rsx_gate.specs.Plays.{IsHeld}
use Rattle.rsx_gate.specs.Seats.{key_of}
use Rattle.rsx_gate.specs.declared.gate.Gate.{Gate}
use Rattle.rsx_gate.specs.declared.view.Step.{Step}
use Rattle.rsx_gate.specs.declared.view.Step.TheVariants.{Enter, GiveUp}
use Rattle.rsx_graph_calls.specs.Subscribing.{IsSubscribeRefusal}
use Rattle.rsx_graph.specs.InGraph.{state_of}
use Rattle.rsx_runtime.specs.declared.tap.Tap.{Tap}
use Rattle.rsx_subscriber.specs.Prelude.{Expr}
use Rattle.rsx_serialized.specs.Calls.{IsAt}
use Rattle.rsx_serialized.specs.Events.{subscribed}
use Rattle.rsx_serialized.specs.Gates.{Fits, HasFitting}
use Rattle.rsx_serialized.specs.Regions.{AreEndsOf, GoesBy, GoesOn, IsSpare}
use Rattle.rsx_serialized.specs.declared.opening.Opening.{Opening}
use Rattle.rsx_serialized.specs.declared.region.GraphRegion.{GraphRegion}
use Rattle.rsx_serialized.specs.declared.region.Links.{Links}
use Rattle.rsx_serialized.specs.declared.starting.StartedGraph.{StartedGraph}
use Rattle.rsx_serialized.specs.declared.subscribing.NotAdded.{NotAdded}
use Rattle.rsx_serialized.specs.declared.subscribing.NotAdded.TheVariants.{NoMemory, NotSubscribed as NotSubscribed'}
use Rattle.rsx_serialized.specs.declared.subscribing.NotSubscribed.{NotSubscribed}
use Rattle.rsx_serialized.specs.declared.subscribing.NotSubscribed.TheVariants.{Busy, NoPlace, Refused}

-- a seat entered a gate that was held; or one that was free, and gave it up
abbrev pub HasTried : {A : Type 0} → Result A NotSubscribed → List Step → List Step → Type 0
HasTried (Ok tap) old new = (n : ℕ) × IsHeld n × (new ≡ GiveUp n ∷ Enter 0 ∷ old)
HasTried (Err Busy) old new = (n : ℕ) × IsHeld n × (new ≡ Enter n ∷ old)
HasTried (Err NoPlace) old new = (n : ℕ) × IsHeld n × (new ≡ GiveUp n ∷ Enter 0 ∷ old)
HasTried (Err (Refused why)) old new = (n : ℕ) × IsHeld n × (new ≡ GiveUp n ∷ Enter 0 ∷ old)

-- a seat tried to have a tap added: where the tap came back for want of memory, the gate was free
abbrev pub HasTriedToAdd : {A T : Type 0} → Result A (NotAdded T) → List Step → List Step → Type 0
HasTriedToAdd (Ok sub) old new = (n : ℕ) × IsHeld n × (new ≡ GiveUp n ∷ Enter 0 ∷ old)
HasTriedToAdd {T = T} (Err (NotSubscribed' why)) old new = HasTried {A = Tap T} (Err why) old new
HasTriedToAdd (Err (NoMemory tap)) old new = (n : ℕ) × IsHeld n × (new ≡ GiveUp n ∷ Enter 0 ∷ old)

module _ {O T : Type 0} {b : Ops O T} where
  -- Between whatever links these ends are, they are so still.
  abbrev pub KeepsOn : GraphRegion O T b → GraphRegion O T b → Type 0
  KeepsOn old new = (links : Links T) → AreEndsOf links old → GoesOn links old new

  -- The expression was subscribed to, and nothing else happened. The subscription has the next number, and this is its tap, which was the first
  -- of those that were handed out to no one.
  pub record HasSubscribed (e : Expr T) (t : Tap T) (old new : GraphRegion O T b) : Type 0 where
    pub goes : GoesBy (b.meaning old.graph.ops) (subscribed e ∷ []) old new
    pub tap : old.spare.items ≡ t ∷ new.spare.items
    pub ends : (new.inlets ≡ old.inlets) × (new.outlets ≡ old.outlets) × (new.pending ≡ old.pending)
    pub place : (links : Links T) → AreEndsOf links old → t.link ≡ length (state_of old.graph).joins
    pub fresh : (links : Links T) → AreEndsOf links old → IsAt links.taps.items t.link (λ l. IsSpare t.link l t)

  -- why it was not: no place is left, or one is and the graph refuses the expression
  abbrev pub IsNotSubscribed : Expr T → GraphRegion O T b → NotSubscribed → Type 0
  IsNotSubscribed e r Busy = ⊥
  IsNotSubscribed e r NoPlace = r.spare.items ≡ []
  IsNotSubscribed e r (Refused why) = (0 < length r.spare.items) × IsSubscribeRefusal e r.graph.hubs.items (length r.graph.subscriptions.items) why

  -- nothing changed
  pub record IsSameRegion (old new : GraphRegion O T b) : Type 0 where
    pub ops : new.graph.ops ≡ old.graph.ops
    pub state : state_of new.graph ≡ state_of old.graph
    pub ends : (new.inlets ≡ old.inlets) × (new.outlets ≡ old.outlets) × (new.pending ≡ old.pending) × (new.spare ≡ old.spare)

  -- so it was of the graph behind a gate, which fitted before and after
  abbrev pub HasSubscribedBehind : Gate (GraphRegion O T b) (Opening O T b) → Expr T → Tap T → Type 0
  HasSubscribedBehind g e t = HasFitting g (λ old. (new : GraphRegion O T b) × HasSubscribed e t old new × Fits (key_of g) new)

  -- another seat had the graph; or the graph behind the gate is one of which it was not subscribed to, for this reason
  abbrev pub IsNotSubscribedBehind : Gate (GraphRegion O T b) (Opening O T b) → Expr T → NotSubscribed → Type 0
  IsNotSubscribedBehind g e Busy = ⊤
  IsNotSubscribedBehind g e NoPlace = HasFitting g (λ r. IsNotSubscribed e r NoPlace)
  IsNotSubscribedBehind g e (Refused why) = HasFitting g (λ r. IsNotSubscribed e r (Refused why))

  -- the tap of a new subscription stands behind those of a graph that was started, and so has its number
  pub record HasAdded (old : StartedGraph O T b) (e : Expr T) (taps : List (Tap T)) (sub : SubId) : Type 0 where
    pub tap : Tap T
    pub put : taps ≡ old.taps.items ++ tap ∷ []
    pub named : tap.sub ≡ sub
    pub number : sub.0 ≡ length old.taps.items
    pub fresh : IsAt old.graph.links.taps.items tap.link (λ l. IsSpare tap.link l tap)
    pub subscribed : HasSubscribedBehind old.graph.gate e tap

  -- it was not subscribed to; or the tap comes back
  abbrev pub IsNotAdded : StartedGraph O T b → Expr T → NotAdded T → Type 0
  IsNotAdded old e (NotSubscribed' why) = IsNotSubscribedBehind old.graph.gate e why
  IsNotAdded old e (NoMemory tap) = IsAt old.graph.links.taps.items tap.link (λ l. IsSpare tap.link l tap) × HasSubscribedBehind old.graph.gate e tap
