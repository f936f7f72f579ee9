use Rattle.std.proofs.Common.{◌≡◌, map, take}
use Rattle.rsx_values.specs.Group.{group_lane}
use Rattle.rsx_model.proofs.operators.group.group_lanes.Given as goal

abbrev pub invariant-loop-key : goal.invariant-loop-key
invariant-loop-key g l = l.lanes.items ≡ map (group_lane (g.O.Ops.meaning l.ops) l.stages (record { items = l.keyed; ending = l.ending })) (take l.key-index l.keys)
