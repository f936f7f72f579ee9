use Rattle.std.proofs.lemmas.Result.{IfErr-weaker, IfOk-weaker}
use Rattle.rsx_serialized.proofs.Subscribes.{held_kept, held_refused, held_subscribed}
use Rattle.rsx_serialized.proofs.subscribing.subscribe_held.Goals as goal

pub returns-clause-holds : goal.returns-clause-holds
returns-clause-holds g c = held_kept c.args.gate.now c.args.seat.now c.value_of.result.now c.requires c.value_of.ensures.value c.subscribe.new.self c.subscribe.ensures.goes

pub returns-clause-subscribed : goal.returns-clause-subscribed
returns-clause-subscribed g c = IfOk-weaker c.subscribe.result _ _ (λ t x. held_subscribed c.args.gate.now c.args.seat.now c.value_of.result.now c.requires c.value_of.ensures.value c.args.expr.now t c.subscribe.new.self c.subscribe.ensures.goes x) c.subscribe.ensures.subscribed

pub returns-clause-err : goal.returns-clause-err
returns-clause-err g c = IfErr-weaker c.subscribe.result _ _ (λ why x. held_refused c.args.gate.now c.args.seat.now c.value_of.result.now c.requires c.value_of.ensures.value c.args.expr.now why x) c.subscribe.ensures.err
