use Rattle.std.proofs.Common.{◌≡◌, [], ◌++◌, drop}
use Rattle.rsx_grouping.specs.Rest.{keyed_value}
use Rattle.rsx_grouping.specs.Table.{lanes_there}
use Rattle.rsx_grouping.proofs.rest.VecInputPushingLanes.push_there.Given as goal

abbrev pub invariant-loop-at : goal.invariant-loop-at
invariant-loop-at g l =
    let m = g.O.Ops.meaning l.ops in
    l.self.items ++ lanes_there m l.at (drop l.at l.rows) (keyed_value l.keyed) [] ≡ l.fn.self.items ++ lanes_there m 0 l.rows (keyed_value l.keyed) []
