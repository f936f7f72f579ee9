use Rattle.std.proofs.Common.{◌≡◌, ◌+◌, ◌≤◌, map, drop}
use Rattle.rsx_model.specs.Shape.{nodes, sum_of}
use Rattle.rsx_rooted.specs.Leaves.{leaves_on}
use Rattle.rsx_rooted.proofs.places.+leaves.Given as goal

abbrev pub invariant-leaves_on_all-loop-input : goal.invariant-leaves_on_all-loop-input
invariant-leaves_on_all-loop-input g l =
    (l.count + sum_of (map (leaves_on l.hub) (drop l.input-index l.inputs)) ≡ sum_of (map (leaves_on l.hub) l.inputs))
    × (sum_of (map nodes (drop l.input-index l.inputs)) ≤ sum_of (map nodes l.inputs))
