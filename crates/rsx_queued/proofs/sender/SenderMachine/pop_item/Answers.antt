use Rattle.rsx_queued.proofs.Senders.{item_result}
use Rattle.rsx_queued.proofs.sender.SenderMachine.pop_item.Goals as goal

pub returns-in-Direct-clause-some : goal.returns-in-Direct-clause-some
returns-in-Direct-clause-some g c =
    let old = c.in-Direct.node in
    rw c.in-Direct.is (item_result g.M.Machine (g.O.Ops.meaning c.args.ops.now) (g.M.Machine.popping old) old c.pop_item.new.self c.pop_item.result c.pop_item.ensures.some)
