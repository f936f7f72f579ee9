use Rattle.rsx_kinds.proofs.Batched.{several_stepped_out}
use Rattle.rsx_kinds.proofs.batches.AnyNodeBatches.step_items.Goals as goal

pub returns-in-Several-clause-yes : goal.returns-in-Several-clause-yes
returns-in-Several-clause-yes g c =
    rw c.in-Several.is (λ e. several_stepped_out (g.O.Ops.meaning c.args.ops.now) c.step_items.new.items.items c.in-Several.node c.step_items.new.self (c.step_items.ensures.yes e))
