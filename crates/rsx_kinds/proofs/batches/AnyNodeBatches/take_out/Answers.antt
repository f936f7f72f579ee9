use Rattle.rsx_kinds.proofs.Batched.{source_popped_all}
use Rattle.rsx_kinds.proofs.batches.AnyNodeBatches.take_out.Goals as goal

pub returns-in-Source-clause-yes : goal.returns-in-Source-clause-yes
returns-in-Source-clause-yes g c =
    rw c.in-Source.is (λ e. source_popped_all (g.O.Ops.meaning c.args.ops.now) c.take_out.new.items.items c.in-Source.node c.take_out.new.self (c.take_out.ensures.yes e))
