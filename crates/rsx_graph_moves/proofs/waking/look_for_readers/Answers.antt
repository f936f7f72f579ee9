use Rattle.std.proofs.Common.{refl}
use Rattle.rsx_graph_moves.proofs.Rest.{fewer_idle}
use Rattle.rsx_graph_moves.proofs.waking.look_for_readers.Goals as goal

pub looks-init : goal.looks-init
looks-init g c = λ m quiet. fewer_idle g.N.Machine m c.args.idle.now c.forget.new.self c.args.subscriptions.now.items c.args.subscriptions.now.items (λ i within. (c.forget.ensures.idle i).0 within) c.forget.ensures.apart refl quiet

pub looks-preserved : goal.looks-preserved
looks-preserved g c = λ m quiet. c.look_at.ensures m (c.looks.invariant m quiet)
