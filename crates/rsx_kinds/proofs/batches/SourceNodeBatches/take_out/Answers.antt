use Rattle.rsx_kinds.proofs.Batched.{hub_popped}
use Rattle.rsx_kinds.proofs.batches.SourceNodeBatches.take_out.Goals as goal

pub returns-in-Hub-clause-yes : goal.returns-in-Hub-clause-yes
returns-in-Hub-clause-yes g c =
    rw c.in-Hub.is (λ e. hub_popped (g.O.Ops.meaning c.args.ops.now) c.take_out.new.items.items c.in-Hub.node c.take_out.new.self (c.take_out.ensures.yes e))
