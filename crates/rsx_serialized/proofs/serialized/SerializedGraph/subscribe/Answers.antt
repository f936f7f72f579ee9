use Rattle.std.proofs.lemmas.Result.{IfErr-weaker, IfOk-weaker}
use Rattle.rsx_serialized.proofs.Subscribes.{behind_fresh, behind_refused}
use Rattle.rsx_serialized.proofs.serialized.SerializedGraph.subscribe.Goals as goal

pub returns-clause-tap : goal.returns-clause-tap
returns-clause-tap g c = IfOk-weaker c.subscribe_held-answer.result _ _ (λ t x. behind_fresh c.args.self.now.gate c.args.self.now.links c.args.expr.now t c.args.self.now.opened x) c.subscribe_held-answer.ensures.subscribed

pub returns-clause-err : goal.returns-clause-err
returns-clause-err g c = IfErr-weaker c.subscribe_held-answer.result _ _ (λ why x. behind_refused c.args.self.now.gate c.args.expr.now why x) c.subscribe_held-answer.ensures.err
