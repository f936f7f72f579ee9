use Rattle.rsx_kinds.proofs.SteppedOut.{stepped_out_merge, stepped_out_merge_delay, stepped_out_zip, stepped_out_latest}
use Rattle.rsx_kinds.proofs.several_node.SeveralNodeMachine.step_item.Goals as goal

pub returns-in-Merge-clause-out : goal.returns-in-Merge-clause-out
returns-in-Merge-clause-out g c =
    rw c.in-Merge.is (stepped_out_merge (g.O.Ops.meaning c.args.ops.now) c.in-Merge.node c.step_item.new.self c.args.asked c.args.sent c.step_item.result c.step_item.ensures.out)

pub returns-in-MergeDelay-clause-out : goal.returns-in-MergeDelay-clause-out
returns-in-MergeDelay-clause-out g c =
    rw c.in-MergeDelay.is (stepped_out_merge_delay (g.O.Ops.meaning c.args.ops.now) c.in-MergeDelay.node c.step_item-in-MergeDelay.new.self c.args.asked c.args.sent c.step_item-in-MergeDelay.result c.step_item-in-MergeDelay.ensures.out)

pub returns-in-Zip-clause-out : goal.returns-in-Zip-clause-out
returns-in-Zip-clause-out g c =
    rw c.in-Zip.is (stepped_out_zip (g.O.Ops.meaning c.args.ops.now) c.in-Zip.node c.row_out.new.self c.args.asked c.args.sent c.row_out.result c.row_out.ensures.out)

pub returns-in-Latest-clause-out : goal.returns-in-Latest-clause-out
returns-in-Latest-clause-out g c =
    rw c.in-Latest.is (stepped_out_latest (g.O.Ops.meaning c.args.ops.now) c.in-Latest.node c.step_item-in-Latest.new.self c.args.asked c.args.sent c.step_item-in-Latest.result c.step_item-in-Latest.ensures.out)
