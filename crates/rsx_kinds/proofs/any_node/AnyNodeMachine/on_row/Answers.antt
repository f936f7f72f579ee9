use Rattle.std.proofs.Common.{ap}
use Rattle.std.proofs.lemmas.Result.{on_ok_weaker, on_err_weaker}
use Rattle.rsx_kinds.specs.declared.any_node.AnyNode.TheVariants.{Several}
use Rattle.rsx_kinds.proofs.Dispatch.{stepped_several}
use Rattle.rsx_kinds.proofs.any_node.AnyNodeMachine.on_row.Goals as goal

pub returns-in-Several-clause-ok : goal.returns-in-Several-clause-ok
returns-in-Several-clause-ok g c = rw c.in-Several.is c.on_row.ensures.ok

pub returns-in-Several-clause-counts : goal.returns-in-Several-clause-counts
returns-in-Several-clause-counts g c = rw c.in-Several.is (on_ok_weaker c.on_row.result (stepped_several c.in-Several.node c.on_row.new.self) c.on_row.ensures.counts)

pub returns-in-Several-clause-same : goal.returns-in-Several-clause-same
returns-in-Several-clause-same g c = rw c.in-Several.is (on_err_weaker c.on_row.result (λ e. ap Several e) c.on_row.ensures.same)
