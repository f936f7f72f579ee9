use Rattle.std.proofs.Common.{[], refl, rules}
use Rattle.rsx_queued.proofs.Nothing.{closed_out}
use Rattle.rsx_queued.proofs.queued.QueuedMachine.residual.Goals as goal

pub returns-in-Completion : goal.returns-in-Completion
returns-in-Completion g c hubs further behind unchosen =
    closed_out g.M.Machine (g.O.Ops.meaning c.args.ops.now) c.args.self.now.node c.args.self.now.queue c.args.self.now.tail [] [] hubs c.args.incoming.now c.in_ok-rest-2.rest c.new-in-Completion.result further
    (search rules) refl refl c.in_ok-rest-2.ensures unchosen (search rules)

pub returns-in-Failure : goal.returns-in-Failure
returns-in-Failure g c hubs further behind unchosen =
    closed_out g.M.Machine (g.O.Ops.meaning c.args.ops.now) c.args.self.now.node c.args.self.now.queue c.args.self.now.tail [] [] hubs c.args.incoming.now c.in_ok-rest-2.rest c.new-in-Failure.result further
    (search rules) refl refl c.in_ok-rest-2.ensures unchosen (search rules)

pub returns-in_ok-append-in-Open : goal.returns-in_ok-append-in-Open
returns-in_ok-append-in-Open g c hubs further behind unchosen =
    closed_out g.M.Machine (g.O.Ops.meaning c.args.ops.now) c.args.self.now.node c.args.self.now.queue c.args.self.now.tail [] [] hubs c.args.incoming.now c.in_ok-rest-2.rest c.new-in-Open.result further
    (search rules) refl refl c.in_ok-rest-2.ensures unchosen (search rules)
