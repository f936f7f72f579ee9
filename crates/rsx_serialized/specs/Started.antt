-- A graph that was put behind a gate with its emitters and its taps.
use Rattle.std.specs.Prelude.{◌≡◌, ℕ, ◌≤◌, List, [], None, Some, slice_get}
use Rattle.rsx_types.specs.declared.limits.TheConstants.{CAPACITY}
use Rattle.rsx_types.specs.declared.ops.Ops.{Ghosts as Ops}
use Rattle.rsx_gate.specs.Machine.{all_parts}
use Rattle.rsx_gate.specs.Seats.{IsSeatOf, key_of}
use Rattle.rsx_link.specs.Ends.{IsUpOf, capacity_of, received_signals, sent_signals}
use Rattle.rsx_link.specs.declared.link.Link.{Link}
use Rattle.rsx_runtime.specs.Tapping.{IsTapOf}
use Rattle.rsx_runtime.specs.declared.emitter.Emitter.{Emitter}
use Rattle.rsx_runtime.specs.declared.tap.Tap.{Tap}
use Rattle.rsx_serialized.specs.Ends.{Beside, BesideFew}
use Rattle.rsx_serialized.specs.declared.ends.FromEmitter.{FromEmitter}
use Rattle.rsx_serialized.specs.declared.ends.ToTap.{ToTap}
use Rattle.rsx_serialized.specs.declared.region.GraphRegion.{GraphRegion}
use Rattle.rsx_serialized.specs.declared.region.Links.{Links}
use Rattle.rsx_serialized.specs.declared.serialized.SerializedGraph.{SerializedGraph}
use Rattle.rsx_serialized.specs.declared.starting.StartedGraph.{StartedGraph}

module _ {T : Type 0} where
  -- each of these links has room for so many signals as the queue of an edge that crosses
  abbrev pub HaveRoom : List (Link T) → Type 0
  HaveRoom links = (k : ℕ) (l : Link T) → slice_get links k ≡ Some l → capacity_of l ≡ CAPACITY

  -- each is an emitter over the link at its place, and publishes at the hub of the end there
  pub record AreEmittersOf (links : List (Link T)) (inlets : List (FromEmitter T)) (emitters : List (Emitter T)) : Type 0 where
    pub ends : Beside (λ k l (e : Emitter T). (e.link ≡ k) × IsUpOf l e.up) links emitters
    pub hubs : Beside (λ k (i : FromEmitter T) (e : Emitter T). e.hub ≡ i.hub) inlets emitters

  -- the tap of the subscription with this number, over the link with it
  abbrev pub IsTapAt : ℕ → Link T → Tap T → Type 0
  IsTapAt k l t = (t.link ≡ k) × (t.sub.0 ≡ k) × IsTapOf l t

  -- each is the tap of the subscription with the number of its place, over the link there; links for subscriptions to come stand behind
  abbrev pub AreTapsOf : List (Link T) → List (Tap T) → Type 0
  AreTapsOf links taps = BesideFew IsTapAt links taps

module _ {O T : Type 0} {b : Ops O T} where
  -- what a graph's gate was opened with
  abbrev pub opened : SerializedGraph O T b → GraphRegion O T b
  opened s = (key_of s.gate).region.value

  -- nothing has gone over the ends of these links, and nothing waits
  pub record IsFresh (links : Links T) (r : GraphRegion O T b) : Type 0 where
    pub inlets : (k : ℕ) (i : FromEmitter T) → slice_get r.inlets.items k ≡ Some i → (received_signals i.down ≡ []) × (i.waiting ≡ None)
    pub outlets : (k : ℕ) (o : ToTap T) → slice_get r.outlets.items k ≡ Some o → sent_signals o.up ≡ []
    pub pending : r.pending.items ≡ []
    pub emitters : HaveRoom links.emitters.items
    pub taps : HaveRoom links.taps.items

  -- A graph is behind its gate, whose seat has all parts. Nothing had gone over its links as the gate was opened, and these are its emitters
  -- and its taps.
  pub record IsStarted (s : StartedGraph O T b) : Type 0 where
    pub fresh : IsFresh s.graph.links (opened s.graph)
    pub seat : IsSeatOf s.graph.gate s.seat
    pub parts : all_parts ≤ s.seat.me.0.parts
    pub emitters : AreEmittersOf s.graph.links.emitters.items (opened s.graph).inlets.items s.emitters.items
    pub taps : AreTapsOf s.graph.links.taps.items s.taps.items
