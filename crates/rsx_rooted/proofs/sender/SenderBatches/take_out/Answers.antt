use Rattle.rsx_rooted.proofs.Senders.{popped_direct}
use Rattle.rsx_rooted.proofs.sender.SenderBatches.take_out.Goals as goal

pub returns-in-Direct-clause-yes : goal.returns-in-Direct-clause-yes
returns-in-Direct-clause-yes g c =
    rw c.in-Direct.is (λ e. popped_direct g.M.Machine (g.O.Ops.meaning c.args.ops.now) c.take_out.new.items.items c.in-Direct.node c.take_out.new.self (c.take_out.ensures.yes e))
