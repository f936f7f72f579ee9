use Rattle.std.proofs.lemmas.Option.{IfSome_then}
use Rattle.rsx_kinds.proofs.Batched.{popped_hub, popped_range}
use Rattle.rsx_kinds.proofs.batches.SourceNodeBatches.peek.Goals as goal

pub returns-in-Range-clause-popped : goal.returns-in-Range-clause-popped
returns-in-Range-clause-popped g c =
    rw c.in-Range.is (IfSome_then c.peek.result c.peek.ensures.popped (λ noted h. popped_range (g.O.Ops.meaning c.args.ops.now) c.in-Range.node noted c.peek.new.items.items h))

pub returns-in-Hub-clause-popped : goal.returns-in-Hub-clause-popped
returns-in-Hub-clause-popped g c =
    rw c.in-Hub.is (IfSome_then c.peek-in-Hub.result c.peek-in-Hub.ensures.popped (λ noted h. popped_hub (g.O.Ops.meaning c.args.ops.now) c.in-Hub.node noted c.peek-in-Hub.new.items.items h))
