use Rattle.rsx_graph_moves.proofs.Readers.{found_idle}
use Rattle.rsx_graph_moves.proofs.waking.look_at.Goals as goal

pub returns-then-not-reads : goal.returns-then-not-reads
returns-then-not-reads g c = λ m quiet.
    found_idle g.N.Machine m c.args.hub.0 c.args.sub.0 c.args.idle.now c.set_apart.new.self c.args.subscriptions.now.items (λ i within. (c.set_apart.ensures.idle i).0 within) c.set_apart.ensures.apart (λ s e. c.reads.ensures c.if-not-reads.true s e) quiet
