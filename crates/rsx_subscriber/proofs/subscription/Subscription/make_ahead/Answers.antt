use Rattle.rsx_subscriber.proofs.Fetches.{pulled_none}
use Rattle.rsx_subscriber.proofs.subscription.Subscription.make_ahead.Goals as goal

pub returns-clause-pumped : goal.returns-clause-pumped
returns-clause-pumped g c = λ o.
    pulled_none g.N.Machine g.N.Nodes (g.O.Ops.meaning c.args.ops.now) c.args.id c.args.left.now c.make_ahead.new.left c.args.self.now _ c.make_ahead.new.self o c.make_ahead.ensures.made
