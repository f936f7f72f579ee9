use Rattle.std.proofs.lemmas.Option.{IfSome_then}
use Rattle.rsx_rooted.proofs.Senders.{passed_crossing, passed_direct_all}
use Rattle.rsx_rooted.proofs.sender.SenderBatches.try_pass.Goals as goal

pub returns-in-Direct-clause-passed : goal.returns-in-Direct-clause-passed
returns-in-Direct-clause-passed g c =
    rw c.in-Direct.is (IfSome_then c.try_pass.result c.try_pass.ensures.passed (λ noted h. passed_direct_all g.M.Machine g.M.Batches.went (g.O.Ops.meaning c.args.ops.now) c.args.input c.in-Direct.node noted c.args.items.now.items c.try_pass.new.items.items h))

pub returns-in-Some-clause-passed : goal.returns-in-Some-clause-passed
returns-in-Some-clause-passed g c =
    let m = g.O.Ops.meaning c.args.ops.now in
    let free = c.is_free.ensures c.if-not-is_free.false in
    let made = c.in-Some.ensures in
    rw c.in-Crossing.is (IfSome_then c.over_queue.result c.over_queue.ensures (λ noted h.
    passed_crossing g.M.Machine g.M.Batches.went m (g.met.M.Machine.shows m) c.args.input c.in-Crossing.crossing c.in-Some.noted noted c.args.items.now.items c.try_pass-in-Crossing.new.items.items free.0 free.1 h.0 h.1 h.4 made.passed))
