-- A graph that is put behind a gate, and comes back.
use Rattle.std.specs.Prelude.{◌≡◌, List}
use Rattle.atomic_table.specs.declared.shared.Seat.{Seat}
use Rattle.rsx_types.specs.declared.ops.Ops.{Ghosts as Ops}
use Rattle.rsx_gate.specs.Machine.{founder}
use Rattle.rsx_gate.specs.Seats.{IsSeatOf, key_of}
use Rattle.rsx_gate.specs.declared.view.View.{View}
use Rattle.rsx_graph.specs.Rows.{History}
use Rattle.rsx_serialized.specs.Events.{Event}
use Rattle.rsx_serialized.specs.Regions.{AreEndsOf, GoesBy}
use Rattle.rsx_serialized.specs.Since.{AreSince}
use Rattle.rsx_serialized.specs.declared.opening.Opening.{Opening}
use Rattle.rsx_serialized.specs.declared.region.GraphRegion.{GraphRegion}
use Rattle.rsx_serialized.specs.declared.region.Links.{Links}
use Rattle.rsx_serialized.specs.declared.serialized.SerializedGraph.{SerializedGraph}

module _ {O T : Type 0} {b : Ops O T} where
  -- a graph was put behind a gate, between these links, with the first seat of the gate
  pub record IsOpened (links : Links T) (region : GraphRegion O T b) (s : SerializedGraph O T b) (first : Seat (GraphRegion O T b) (View (Opening O T b))) : Type 0 where
    pub over : s.links ≡ links
    pub opening : (key_of s.gate).region.value ≡ region
    pub seat : IsSeatOf s.gate first × (first.me.0 ≡ founder (key_of s.gate))

  -- The graph comes back from behind its gate, between its links still. These things have happened to it since it was put there, as `since`
  -- says of each hub and each subscriber.
  pub record HasStopped (links : Links T) (opening now : GraphRegion O T b) : Type 0 where
    pub ends : AreEndsOf links now
    pub events : List (Event T)
    pub goes : GoesBy (b.meaning opening.graph.ops) events opening now
    pub since : (h : History T) → AreSince events h
