use Rattle.std.proofs.Common.{refl, sym, ◌∙◌}
use Rattle.rsx_delayed.proofs.EagerMoves.{ending_taken}
use Rattle.rsx_delayed.proofs.publish_on_eager_node.PublishOnEagerNodeMachine.pop_front.Goals as goal

pub returns-in-Some-front-clause-ok : goal.returns-in-Some-front-clause-ok
returns-in-Some-front-clause-ok g c =
    ending_taken (g.O.Ops.meaning c.args.ops.now) c.args.self.now c.pop_item.new.self _ c.in-Some-front.ending c.take.result c.in_default.ensures.none (sym c.in-Some-front.is ∙ c.front.ensures.shown) c.in_default.ensures.offered refl c.take.ensures.signal c.take.ensures.tail c.after-self.ensures refl
