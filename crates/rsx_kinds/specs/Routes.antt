-- How the edge of a node joins its two ends: straight, or through the queue of an edge that crosses to another region.
use Rattle.std.specs.Prelude.{ℕ, Bool, true, false, ◌&&◌, Option, Some, None}
use Rattle.rsx_sources.specs.Prelude.{Note}
use Rattle.rsx_queued.specs.Queued.{can_transfer, pop_note}
use Rattle.rsx_queued.specs.declared.sender.Sender.TheVariants.{Direct, Crossing}
use Rattle.rsx_kinds.specs.Any.{TreeNode, kind_machine}
use Rattle.rsx_tree.specs.Prelude.{is_live}
use Rattle.rsx_tree.specs.declared.edge.EdgeState.{EdgeState}
use Rattle.rsx_kinds.specs.Operators.{operator_of}
use Rattle.rsx_kinds.specs.Queues.{crossing_of, lanes_of, queued_of}
use Rattle.rsx_rooted.specs.declared.nodes.Nodes.{Ghosts as Nodes}
use Rattle.rsx_rooted.specs.declared.nodes.Route.{Route}
use Rattle.rsx_rooted.specs.declared.nodes.Route.TheVariants.{Straight, Queued, Recorded}

-- a signal goes into the queue of an edge that crosses, or none can, and the node records it as it goes or doesn't
abbrev pub crossing_route : Bool → Option Note → Route
crossing_route false o = Queued false
crossing_route true None = Queued true
crossing_route true (Some k) = Recorded

-- a signal goes into the queue of an edge that crosses while the edge is live, the node offers one that may go, and there's room
abbrev pub route_by : {T : Type 0} → TreeNode T → EdgeState → ℕ → ℕ → Route
route_by (Direct n) state asked sent = Straight
route_by (Crossing q) state asked sent = crossing_route (is_live state && can_transfer kind_machine q asked sent) (pop_note kind_machine q.node)

-- how the nodes of a tree join, which of their edges cross, which operators they are, and what waits in their queues
abbrev pub tree_nodes : {T : Type 0} → Nodes (TreeNode T) T
tree_nodes = record { route_by = route_by; operator_of = operator_of; queued_of = queued_of; crossing_of = crossing_of; lanes_of = lanes_of }
