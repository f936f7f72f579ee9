use Rattle.rsx_grouping.proofs.Fresh.{fresh_group}
use Rattle.rsx_grouping.proofs.node.GroupByNode.new.Goals as goal

pub returns-clause-fresh : goal.returns-clause-fresh
returns-clause-fresh g c = λ m inc further. fresh_group m c.args.function c.args.stages.items c.new.result inc.first further c.new.ensures
