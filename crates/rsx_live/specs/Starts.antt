-- A live graph with its taps and seats, which one thread drives.
use Rattle.std.specs.Prelude.{◌≤◌, List, length}
use Rattle.std.specs.List.{AllZip}
use Rattle.rsx_types.specs.declared.ops.Ops.{Ghosts as Ops}
use Rattle.rsx_gate.specs.Machine.{all_parts}
use Rattle.rsx_gate.specs.Seats.{IsSeatOf}
use Rattle.rsx_graph.specs.declared.graph.Graph.{Graph}
use Rattle.rsx_runtime.specs.declared.TheConstants.{MOST_WORKERS}
use Rattle.rsx_runtime.specs.declared.tap.Tap.{Tap}
use Rattle.rsx_live_parts.specs.Kept.{AreTapsFrom}
use Rattle.rsx_live.specs.Graphs.{IsLiveGraphOf}
use Rattle.rsx_live.specs.declared.graph.LiveGraph.{LiveGraph}
use Rattle.rsx_live.specs.declared.graph.StartedGraph.{StartedGraph}

module _ {O T : Type 0} {b : Ops O T} where
  -- a tap over its link for each subscription whose part is in a region, in the order of their numbers
  abbrev pub AreTapsOf : LiveGraph O T b → List (Tap T) → Type 0
  AreTapsOf live ts = AreTapsFrom live.subs.live.links.items 0 live.subs.kept.items ts

  -- That graph has gone live, with these taps and seats. Each tap is over its link, and each seat has all parts of the gate of its region.
  pub record IsStartedOf (graph : Graph O T b) (s : StartedGraph O T b) : Type 0 where
    pub live : IsLiveGraphOf graph s.live
    pub taps : AreTapsFrom s.live.subs.live.links.items 0 s.live.subs.kept.items s.taps.items
    pub seats : AllZip (λ g x. IsSeatOf g x × (all_parts ≤ x.me.0.parts)) s.live.subs.live.gates.items s.seats.items
    pub few : length s.seats.items ≤ MOST_WORKERS

  -- some graph has
  pub record IsStarted (s : StartedGraph O T b) : Type 0 where
    pub graph : Graph O T b
    pub is : IsStartedOf graph s

  -- each graph that has gone live so has so still
  abbrev pub StaysStarted : StartedGraph O T b → StartedGraph O T b → Type 0
  StaysStarted old new = (graph : Graph O T b) → IsStartedOf graph old → IsStartedOf graph new
