use Rattle.std.proofs.Common.{refl, sym, ◌∙◌}
use Rattle.rsx_subscriber.proofs.Moves.{stands_taken, is_taking}
use Rattle.rsx_subscriber.proofs.subscription.Subscription.take.Goals as goal

pub returns-clause-some : goal.returns-clause-some
returns-clause-some g c = λ m published past h.
    let t = c.delivers.ensures in
    stands_taken g.N.Machine m published c.args.self.now _ _ past (is_taking c.args.self.now _ c.at.result.now c.unwrap.result c.pop.result c.at.ensures c.unwrap.ensures c.pop.ensures.some (sym t.delivered ∙ c.if-not-delivers.false) t.state refl t.asked t.sent refl) h

pub returns-clause-effect : goal.returns-clause-effect
returns-clause-effect g c =
    let t = c.delivers.ensures in
    (is_taking c.args.self.now _ c.at.result.now c.unwrap.result c.pop.result c.at.ensures c.unwrap.ensures c.pop.ensures.some (sym t.delivered ∙ c.if-not-delivers.false) t.state refl t.asked t.sent refl).take
