use Rattle.std.proofs.Common.{ap}
use Rattle.std.proofs.lemmas.Result.{on_ok_weaker, on_err_weaker}
use Rattle.rsx_kinds.proofs.SeveralDispatch.{stepped_merge, stepped_merge_delay, stepped_zip, stepped_latest}
use Rattle.rsx_kinds.specs.declared.several_node.SeveralNode.TheVariants.{Merge, MergeDelay, Zip, Latest}
use Rattle.rsx_kinds.proofs.several_node.SeveralNodeMachine.on_pick.Goals as goal

pub returns-in-Merge-clause-ok : goal.returns-in-Merge-clause-ok
returns-in-Merge-clause-ok g c = rw c.in-Merge.is c.on_pick.ensures.ok

pub returns-in-MergeDelay-clause-ok : goal.returns-in-MergeDelay-clause-ok
returns-in-MergeDelay-clause-ok g c = rw c.in-MergeDelay.is c.on_pick-in-MergeDelay.ensures.ok

pub returns-in-Merge-clause-counts : goal.returns-in-Merge-clause-counts
returns-in-Merge-clause-counts g c = rw c.in-Merge.is (on_ok_weaker c.on_pick.result (stepped_merge c.in-Merge.node c.on_pick.new.self) c.on_pick.ensures.counts)

pub returns-in-MergeDelay-clause-counts : goal.returns-in-MergeDelay-clause-counts
returns-in-MergeDelay-clause-counts g c = rw c.in-MergeDelay.is (on_ok_weaker c.on_pick-in-MergeDelay.result (stepped_merge_delay c.in-MergeDelay.node c.on_pick-in-MergeDelay.new.self) c.on_pick-in-MergeDelay.ensures.counts)

pub returns-in-Merge-clause-same : goal.returns-in-Merge-clause-same
returns-in-Merge-clause-same g c = rw c.in-Merge.is (on_err_weaker c.on_pick.result (λ e. ap Merge e) c.on_pick.ensures.same)

pub returns-in-MergeDelay-clause-same : goal.returns-in-MergeDelay-clause-same
returns-in-MergeDelay-clause-same g c = rw c.in-MergeDelay.is (on_err_weaker c.on_pick-in-MergeDelay.result (λ e. ap MergeDelay e) c.on_pick-in-MergeDelay.ensures.same)

pub returns-in-Zip-clause-ok : goal.returns-in-Zip-clause-ok
returns-in-Zip-clause-ok g c = rw c.in-Zip.is c.on_pick-in-Zip.ensures.ok

pub returns-in-Zip-clause-counts : goal.returns-in-Zip-clause-counts
returns-in-Zip-clause-counts g c = rw c.in-Zip.is (on_ok_weaker c.on_pick-in-Zip.result (stepped_zip c.in-Zip.node c.on_pick-in-Zip.new.self) c.on_pick-in-Zip.ensures.counts)

pub returns-in-Zip-clause-same : goal.returns-in-Zip-clause-same
returns-in-Zip-clause-same g c = rw c.in-Zip.is (on_err_weaker c.on_pick-in-Zip.result (λ e. ap Zip e) c.on_pick-in-Zip.ensures.same)

pub returns-in-Latest-clause-ok : goal.returns-in-Latest-clause-ok
returns-in-Latest-clause-ok g c = rw c.in-Latest.is c.on_pick-in-Latest.ensures.ok

pub returns-in-Latest-clause-counts : goal.returns-in-Latest-clause-counts
returns-in-Latest-clause-counts g c = rw c.in-Latest.is (on_ok_weaker c.on_pick-in-Latest.result (stepped_latest c.in-Latest.node c.on_pick-in-Latest.new.self) c.on_pick-in-Latest.ensures.counts)

pub returns-in-Latest-clause-same : goal.returns-in-Latest-clause-same
returns-in-Latest-clause-same g c = rw c.in-Latest.is (on_err_weaker c.on_pick-in-Latest.result (λ e. ap Latest e) c.on_pick-in-Latest.ensures.same)
