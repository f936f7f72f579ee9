use Rattle.std.proofs.Common.{[]}
use Rattle.rsx_grouping.specs.Rest.{keyed_value}
use Rattle.rsx_grouping.specs.Table.{lanes_there}
use Rattle.rsx_grouping.proofs.Copies.{there_pushed}
use Rattle.rsx_grouping.proofs.rest.VecInputPushingLanes.push_there.Goals as goal

pub loop-at-preserved : goal.loop-at-preserved
loop-at-preserved g c =
    let m = g.O.Ops.meaning c.args.ops.now in
    let w = keyed_value c.args.keyed.now in
    there_pushed m c.args.self.now.items c.loop-at.self.items c.push_left.new.inputs.items (lanes_there m 0 c.args.rows.now w []) c.args.rows.now w c.loop-at.at c.index-rows-at.result
    c.loop-at-test.true c.index-rows-at.is c.in_ok-push_left.ensures c.loop-at.invariant
