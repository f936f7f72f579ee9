use Rattle.rsx_kinds.proofs.SeveralDispatch.{passed_concat, passed_merge, passed_merge_delay, passed_zip, passed_latest}
use Rattle.rsx_kinds.proofs.several_node.SeveralNodeMachine.pass.Goals as goal

pub returns-in-Concat-clause-passed : goal.returns-in-Concat-clause-passed
returns-in-Concat-clause-passed g c = rw c.in-Concat.is (passed_concat (g.O.Ops.meaning c.args.ops.now) c.in-Concat.node c.pass.new.self c.args.input c.args.item c.pass.result c.pass.ensures.passed)

pub returns-in-Merge-clause-passed : goal.returns-in-Merge-clause-passed
returns-in-Merge-clause-passed g c = rw c.in-Merge.is (passed_merge (g.O.Ops.meaning c.args.ops.now) c.in-Merge.node c.pass-in-Merge.new.self c.args.input c.args.item c.pass-in-Merge.result c.pass-in-Merge.ensures.passed)

pub returns-in-MergeDelay-clause-passed : goal.returns-in-MergeDelay-clause-passed
returns-in-MergeDelay-clause-passed g c = rw c.in-MergeDelay.is (passed_merge_delay (g.O.Ops.meaning c.args.ops.now) c.in-MergeDelay.node c.pass-in-MergeDelay.new.self c.args.input c.args.item c.pass-in-MergeDelay.result c.pass-in-MergeDelay.ensures.passed)

pub returns-in-Zip-clause-passed : goal.returns-in-Zip-clause-passed
returns-in-Zip-clause-passed g c = rw c.in-Zip.is (passed_zip (g.O.Ops.meaning c.args.ops.now) c.in-Zip.node c.pass-in-Zip.new.self c.args.input c.args.item c.pass-in-Zip.result c.pass-in-Zip.ensures.passed)

pub returns-in-Latest-clause-passed : goal.returns-in-Latest-clause-passed
returns-in-Latest-clause-passed g c = rw c.in-Latest.is (passed_latest (g.O.Ops.meaning c.args.ops.now) c.in-Latest.node c.pass-in-Latest.new.self c.args.input c.args.item c.pass-in-Latest.result c.pass-in-Latest.ensures.passed)
