use Rattle.std.proofs.lemmas.Option.{IfSome_then}
use Rattle.rsx_kinds.proofs.Batched.{popped_source}
use Rattle.rsx_kinds.proofs.batches.AnyNodeBatches.peek.Goals as goal

pub returns-in-Source-clause-popped : goal.returns-in-Source-clause-popped
returns-in-Source-clause-popped g c =
    rw c.in-Source.is (IfSome_then c.peek.result c.peek.ensures.popped (λ noted h. popped_source (g.O.Ops.meaning c.args.ops.now) c.in-Source.node noted c.peek.new.items.items h))
