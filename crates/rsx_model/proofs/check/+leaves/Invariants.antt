use Rattle.std.proofs.Common.{◌≡◌, ◌+◌, ◌≤◌, map, drop, min}
use Rattle.rsx_model.specs.Shape.{leaves, sum_of}
use Rattle.rsx_model.specs.declared.check.TheConstants.{MOST_NODES}
use Rattle.rsx_model.proofs.check.+leaves.Given as goal

abbrev pub invariant-leaves_of_all-loop-input : goal.invariant-leaves_of_all-loop-input
invariant-leaves_of_all-loop-input g l = (l.count ≤ MOST_NODES + 1) × (min (l.count + sum_of (map leaves (drop l.input-index l.inputs))) (MOST_NODES + 1) ≡ min (sum_of (map leaves l.inputs)) (MOST_NODES + 1))
