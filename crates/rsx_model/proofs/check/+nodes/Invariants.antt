use Rattle.std.proofs.Common.{◌≡◌, ◌+◌, ◌≤◌, map, drop, min}
use Rattle.rsx_model.specs.Shape.{nodes, sum_of}
use Rattle.rsx_model.specs.declared.check.TheConstants.{MOST_NODES}
use Rattle.rsx_model.proofs.check.+nodes.Given as goal

abbrev pub invariant-nodes_of_all-loop-input : goal.invariant-nodes_of_all-loop-input
invariant-nodes_of_all-loop-input g l = (l.count ≤ MOST_NODES + 1) × (min (l.count + sum_of (map nodes (drop l.input-index l.inputs))) (MOST_NODES + 1) ≡ min (sum_of (map nodes l.inputs)) (MOST_NODES + 1))
