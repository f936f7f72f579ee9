use Rattle.rsx_subscriber.proofs.Publishing.{handed_sub}
use Rattle.rsx_subscriber.proofs.subscription.Subscription.hand.Goals as goal

pub returns : goal.returns
returns g c = λ s k all room.
    let e = c.hand.ensures s k all room in
    (handed_sub g.N.Machine c.args.hub s c.args.self.now c.hand.new.self _ e.0, e.1)
