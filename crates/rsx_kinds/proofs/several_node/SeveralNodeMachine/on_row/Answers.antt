use Rattle.std.proofs.lemmas.Result.{on_ok_weaker}
use Rattle.rsx_kinds.proofs.SeveralDispatch.{stepped_zip}
use Rattle.rsx_kinds.proofs.several_node.SeveralNodeMachine.on_row.Goals as goal

pub returns-in-Zip-clause-counts : goal.returns-in-Zip-clause-counts
returns-in-Zip-clause-counts g c = rw c.in-Zip.is (on_ok_weaker c.on_row.result (stepped_zip c.in-Zip.node c.on_row.new.self) c.on_row.ensures.counts)
