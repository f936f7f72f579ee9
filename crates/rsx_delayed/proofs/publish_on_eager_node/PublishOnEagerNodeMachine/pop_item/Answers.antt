use Rattle.std.proofs.Common.{refl, sym}
use Rattle.rsx_delayed.proofs.EagerItems.{item_recorded}
use Rattle.rsx_delayed.proofs.publish_on_eager_node.PublishOnEagerNodeMachine.pop_item.Goals as goal

pub returns-then-records_pop-clause-some : goal.returns-then-records_pop-clause-some
returns-then-records_pop-clause-some g c =
    item_recorded (g.O.Ops.meaning c.args.ops.now) c.args.self.now _ c.in_ok-item.item (sym c.if-records_pop.ensures) refl c.push.ensures.runs c.push.ensures.written c.push.ensures.last c.in_ok-item.ensures.some
