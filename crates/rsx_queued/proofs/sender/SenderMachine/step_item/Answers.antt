use Rattle.rsx_queued.proofs.Going.{gone_over}
use Rattle.rsx_queued.proofs.Senders.{stepped_direct}
use Rattle.rsx_queued.proofs.sender.SenderMachine.step_item.Goals as goal

pub returns-in-Direct-clause-out : goal.returns-in-Direct-clause-out
returns-in-Direct-clause-out g c =
    rw c.in-Direct.is (stepped_direct g.M.Machine (g.O.Ops.meaning c.args.ops.now) c.in-Direct.node c.step_item.new.self c.args.asked c.args.sent c.step_item.result c.step_item.ensures.out)

pub returns-in-Crossing-clause-out : goal.returns-in-Crossing-clause-out
returns-in-Crossing-clause-out g c =
    rw c.in-Crossing.is (gone_over g.M.Machine (g.O.Ops.meaning c.args.ops.now) c.in-Crossing.node c.step_item-in-Crossing.new.self c.args.asked c.args.sent c.step_item-in-Crossing.result c.step_item-in-Crossing.ensures.out)
