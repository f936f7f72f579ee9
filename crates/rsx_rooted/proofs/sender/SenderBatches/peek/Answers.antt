use Rattle.std.proofs.lemmas.Option.{IfSome_then}
use Rattle.rsx_rooted.proofs.Senders.{popped_crossing, popped_direct_all}
use Rattle.rsx_rooted.proofs.sender.SenderBatches.peek.Goals as goal

pub returns-in-Direct-clause-popped : goal.returns-in-Direct-clause-popped
returns-in-Direct-clause-popped g c =
    rw c.in-Direct.is (IfSome_then c.peek.result c.peek.ensures.popped (λ noted h. popped_direct_all g.M.Machine g.M.Batches.went (g.O.Ops.meaning c.args.ops.now) c.in-Direct.node noted c.peek.new.items.items h))

pub returns-in-Some-clause-popped : goal.returns-in-Some-clause-popped
returns-in-Some-clause-popped g c =
    let m = g.O.Ops.meaning c.args.ops.now in
    let free = c.is_free.ensures c.if-not-is_free.false in
    let made = c.in-Some.ensures in
    rw c.in-Crossing.is (IfSome_then c.over_queue.result c.over_queue.ensures (λ noted h.
    popped_crossing g.M.Machine g.M.Batches.went m (g.met.M.Machine.shows m) c.in-Crossing.crossing c.in-Some.noted noted c.peek-in-Crossing.new.items.items free.0 free.1 made.goes_on h.0 h.1 h.4 made.popped))
