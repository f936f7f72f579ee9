use Rattle.std.proofs.Common.{map, drop}
use Rattle.rsx_values.specs.Prelude.{numbered, group_lane}
use Rattle.rsx_grouping.specs.Rest.{keyed_value}
use Rattle.rsx_grouping.proofs.Copies.{fresh_pushed}
use Rattle.rsx_grouping.proofs.rest.VecInputPushingLanes.push_fresh.Goals as goal

pub loop-at-preserved : goal.loop-at-preserved
loop-at-preserved g c =
    let m = g.O.Ops.meaning c.args.ops.now in
    let gs = c.args.stages.now in
    let w = keyed_value c.args.keyed.now in
    let keys = c.as_slice-keys.result.now in
    fresh_pushed m gs c.args.self.now.items c.loop-at.self.items c.push_left.new.inputs.items (numbered c.args.count (map (group_lane m gs w) (drop c.args.count keys))) keys w c.loop-at.at c.in_ok-lane.lane
    c.loop-at-test.true c.in_ok-lane.ensures c.in_ok-push_left.ensures c.loop-at.invariant
