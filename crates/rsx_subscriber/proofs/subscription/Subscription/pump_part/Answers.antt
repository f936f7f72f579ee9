use Rattle.rsx_subscriber.proofs.Moves.{pumped_part}
use Rattle.rsx_subscriber.proofs.subscription.Subscription.pump_part.Goals as goal

pub returns-in-Ok-clause-pumped : goal.returns-in-Ok-clause-pumped
returns-in-Ok-clause-pumped g c =
    let p = c.in-Ok.ensures.pumped in
    (p.0, p.1, λ o. pumped_part g.N.Machine g.N.Nodes (g.O.Ops.meaning c.args.ops.now) c.args.id p.0 c.args.self.now _ c.pump.new.self c.pump.new.out o p.2)

pub returns-in-Err-clause-pumped : goal.returns-in-Err-clause-pumped
returns-in-Err-clause-pumped g c =
    let p = c.in-Err.ensures.pumped in
    (p.0, p.1, λ o. pumped_part g.N.Machine g.N.Nodes (g.O.Ops.meaning c.args.ops.now) c.args.id p.0 c.args.self.now _ c.pump.new.self c.pump.new.out o p.2)
