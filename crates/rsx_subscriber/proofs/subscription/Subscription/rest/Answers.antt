use Rattle.std.proofs.Common.{refl}
use Rattle.rsx_subscriber.proofs.Moves.{none_left}
use Rattle.rsx_subscriber.proofs.subscription.Subscription.rest.Goals as goal

pub returns-in-true : goal.returns-in-true
returns-in-true g c = λ m _. (refl, c.in-true.ensures.yes m refl)

pub returns-in-false : goal.returns-in-false
returns-in-false g c = λ m q. (none_left g.N.Machine m c.args.self.now c.args.left q (c.in-false.ensures.no m refl), c.in-false.ensures.no m refl)
