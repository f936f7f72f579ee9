use Rattle.std.proofs.Common.{◌≡◌, ◌++◌, drop, map}
use Rattle.rsx_values.specs.Prelude.{numbered, group_lane}
use Rattle.rsx_grouping.specs.Rest.{keyed_value}
use Rattle.rsx_grouping.proofs.rest.VecInputPushingLanes.push_fresh.Given as goal

abbrev pub invariant-loop-at : goal.invariant-loop-at
invariant-loop-at g l =
    let lane = group_lane (g.O.Ops.meaning l.ops) l.stages (keyed_value l.keyed) in
    l.self.items ++ numbered l.at (map lane (drop l.at l.keys)) ≡ l.fn.self.items ++ numbered l.count (map lane (drop l.count l.keys))
