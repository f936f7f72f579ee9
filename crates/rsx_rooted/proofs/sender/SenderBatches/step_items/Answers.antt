use Rattle.std.proofs.Common.{true}
use Rattle.rsx_rooted.proofs.Senders.{popped_direct_by}
use Rattle.rsx_rooted.proofs.sender.SenderBatches.step_items.Goals as goal

pub returns-in-Direct-clause-yes : goal.returns-in-Direct-clause-yes
returns-in-Direct-clause-yes g c =
    rw c.in-Direct.is (λ e. popped_direct_by g.M.Machine (g.O.Ops.meaning c.args.ops.now) true c.step_items.new.items.items c.in-Direct.node c.step_items.new.self (c.step_items.ensures.yes e))
