use Rattle.std.proofs.lemmas.Result.{IfOk-weaker}
use Rattle.rsx_delayed.proofs.EagerMoves.{rest_out}
use Rattle.rsx_delayed.proofs.publish_on_eager_node.PublishOnEagerNodeMachine.residual.Goals as goal

pub returns : goal.returns
returns g c = IfOk-weaker c.residual.result _ _ (λ v h. rest_out (g.O.Ops.meaning c.args.ops.now) c.args.self.now c.args.inboxes.now c.args.incoming.now v h) c.residual.ensures
