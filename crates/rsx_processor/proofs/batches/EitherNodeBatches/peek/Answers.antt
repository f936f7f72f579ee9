use Rattle.std.proofs.lemmas.Option.{IfSome_then}
use Rattle.rsx_processor.proofs.Batched.{left_popped_all, right_popped_all}
use Rattle.rsx_processor.proofs.batches.EitherNodeBatches.peek.Goals as goal

pub returns-in-Left-clause-popped : goal.returns-in-Left-clause-popped
returns-in-Left-clause-popped g c =
    rw c.in-Left.is (IfSome_then c.peek.result c.peek.ensures.popped (λ noted h. left_popped_all g.A.Machine g.B.Machine g.A.Batches.went g.B.Batches.went (g.O.Ops.meaning c.args.ops.now) c.in-Left.node noted c.peek.new.items.items h))

pub returns-in-Right-clause-popped : goal.returns-in-Right-clause-popped
returns-in-Right-clause-popped g c =
    rw c.in-Right.is (IfSome_then c.peek-in-Right.result c.peek-in-Right.ensures.popped (λ noted h. right_popped_all g.A.Machine g.B.Machine g.A.Batches.went g.B.Batches.went (g.O.Ops.meaning c.args.ops.now) c.in-Right.node noted c.peek-in-Right.new.items.items h))
