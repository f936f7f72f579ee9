use Rattle.rsx_queued.proofs.Senders.{popped_result}
use Rattle.rsx_queued.proofs.sender.SenderMachine.pop_front.Goals as goal

pub returns-in-Direct-clause-ok : goal.returns-in-Direct-clause-ok
returns-in-Direct-clause-ok g c =
    let m = g.O.Ops.meaning c.args.ops.now in
    let old = c.in-Direct.node in
    rw c.in-Direct.is (popped_result g.M.Machine m (g.M.Machine.popping old) (g.M.Machine.waiting m old) old c.pop_front.new.self c.pop_front.result c.pop_front.ensures.ok)
