use Rattle.rsx_grouping.proofs.Chosen.{completion_picked, failure_picked}
use Rattle.rsx_grouping.proofs.node.GroupByNode.pick_main.Goals as goal

pub returns-in-Completed-clause-ok : goal.returns-in-Completed-clause-ok
returns-in-Completed-clause-ok g c = λ m inc further. completion_picked m c.args.self.now c.put_out.new.self c.push.new.self c.requires.empty c.requires.small c.in-Completed.is c.put_out.ensures inc further

pub returns-in-Failing-clause-ok : goal.returns-in-Failing-clause-ok
returns-in-Failing-clause-ok g c = λ m inc further. failure_picked m c.args.self.now c.put_out-in-Failing.new.self c.push.new.self c.in-Failing.cause c.requires.empty c.requires.small c.in-Failing.is c.put_out-in-Failing.ensures inc further
