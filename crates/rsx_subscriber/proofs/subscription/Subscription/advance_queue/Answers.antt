use Rattle.std.proofs.Common.{◌≡◌, ap, sym, ◌∙◌, ◌++◌, ◌∷◌, [], refl, subst, rules}
use Rattle.rsx_subscriber.specs.Pumped.{IsPumped, moves_of}
use Rattle.rsx_subscriber.proofs.Moves.{pumped_one, pumped_still}
use Rattle.rsx_subscriber.proofs.subscription.Subscription.advance_queue.Goals as goal

pub returns-in-Some-clause-pumped : goal.returns-in-Some-clause-pumped
returns-in-Some-clause-pumped g c = λ m.
    pumped_one g.N.Machine g.N.Nodes m c.args.id c.args.self.now c.take.new.self c.args.out.now.signals c.push.new.self.signals c.in-Some.signal
    (c.push.ensures ∙ ap (λ l. l ++ (c.args.id, c.in-Some.signal) ∷ []) c.in_ok-reserve.ensures.signals) c.in-Some.ensures.enabled c.in-Some.ensures.effect (λ published past h. c.in-Some.ensures.some m published past h)

pub returns-in-None-clause-pumped : goal.returns-in-None-clause-pumped
returns-in-None-clause-pumped g c = λ m. pumped_still g.N.Machine g.N.Nodes m c.args.id c.args.self.now c.take.new.self c.args.out.now.signals c.reserve.new.self.signals c.in-None.ensures.none.0 c.in_ok-reserve.ensures.signals

pub returns-in_err-reserve-clause-pumped : goal.returns-in_err-reserve-clause-pumped
returns-in_err-reserve-clause-pumped g c = λ m.
    let none : moves_of c.from_residual.result ≡ 0 = search rules in
    let same : c.reserve.new.self.signals ≡ c.args.out.now.signals = search rules in
    subst (λ n. IsPumped g.N.Machine g.N.Nodes m c.args.id n c.args.self.now c.args.out.now.signals c.args.self.now c.reserve.new.self.signals) (sym none) (pumped_still g.N.Machine g.N.Nodes m c.args.id c.args.self.now c.args.self.now c.args.out.now.signals c.reserve.new.self.signals refl same)
