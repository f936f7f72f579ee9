use Rattle.rsx_processor.proofs.Batched.{left_popped, right_popped}
use Rattle.rsx_processor.proofs.batches.EitherNodeBatches.take_out.Goals as goal

pub returns-in-Left-clause-yes : goal.returns-in-Left-clause-yes
returns-in-Left-clause-yes g c =
    rw c.in-Left.is (λ e. left_popped g.A.Machine g.B.Machine (g.O.Ops.meaning c.args.ops.now) c.take_out.new.items.items c.in-Left.node c.take_out.new.self (c.take_out.ensures.yes e))

pub returns-in-Right-clause-yes : goal.returns-in-Right-clause-yes
returns-in-Right-clause-yes g c =
    rw c.in-Right.is (λ e. right_popped g.A.Machine g.B.Machine (g.O.Ops.meaning c.args.ops.now) c.take_out-in-Right.new.items.items c.in-Right.node c.take_out-in-Right.new.self (c.take_out-in-Right.ensures.yes e))
