-- How the edges of a part join their two ends: straight, or through the queue of an edge that crosses to another region.
use Rattle.std.specs.Prelude.{ℕ, nat_eq, if◌then◌else◌, Option, Some, None}
use Rattle.rsx_rooted.specs.declared.nodes.Nodes.{Ghosts as Nodes}
use Rattle.rsx_rooted.specs.declared.nodes.Route.{Route}
use Rattle.rsx_rooted.specs.declared.nodes.Route.TheVariants.{Straight}
use Rattle.rsx_tree.specs.declared.edge.EdgeState.{EdgeState}
use Rattle.rsx_tree.specs.Prelude.{EdgeView, edge_view, Station, station_of}
use Rattle.rsx_pipe.specs.Part.{Part}

-- the edge over which a node sends
abbrev pub edge_over : {M : Type 0} → Station M → EdgeView
edge_over s = record { asked = s.asked; sent = s.sent; state = s.state }

abbrev pub route_in : {M : Type 0} → (M → EdgeState → ℕ → ℕ → Route) → Option (Station M) → Route
route_in by None = Straight
route_in by (Some s) = by s.machine s.state s.asked s.sent

-- the edge of the node `at`; 0 is the edge from the root
abbrev pub route : {M T : Type 0} → Nodes M T → Part M → ℕ → Route
route kd part at = route_in kd.route_by (station_of part.tree (edge_view part.root) at)

-- the same where the queue of the root edge belongs to the receiver
abbrev pub route_below : {M T : Type 0} → Nodes M T → Part M → ℕ → Route
route_below kd part at = if nat_eq at 0 then Straight else route kd part at
