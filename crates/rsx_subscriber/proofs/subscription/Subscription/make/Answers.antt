use Rattle.std.proofs.Common.{ap, refl, sym, ◌∙◌}
use Rattle.rsx_pipe.specs.Crossing.{route_below}
use Rattle.rsx_subscriber.specs.Moves.{node_move}
use Rattle.rsx_subscriber.proofs.Moves.{alone_part, stands_made, worked_part}
use Rattle.rsx_subscriber.proofs.subscription.Subscription.make.Goals as goal

pub returns-in-Ok-clause-stands : goal.returns-in-Ok-clause-stands
returns-in-Ok-clause-stands g c = λ published past h.
    stands_made g.N.Machine (g.O.Ops.meaning c.args.ops.now) c.in-Some.inside published c.args.self.now _ past (record { state = refl; live = refl; demand = refl }) c.in-Ok.ensures.enabled c.in-Ok.ensures.made h

pub returns-in-Ok-clause-effect : goal.returns-in-Ok-clause-effect
returns-in-Ok-clause-effect g c =
    let way = c.route_below-route.ensures ∙ ap (λ n. route_below g.N.Nodes c.args.self.now.part n) c.node_of.ensures in
    worked_part g.N.Machine g.N.Nodes (g.O.Ops.meaning c.args.ops.now) c.args.step c.in-Some.inside c.args.self.now _ (sym c.in-Some.is ∙ (c.node_move.ensures ∙ ap (λ r. node_move r c.args.step) way)) (record { state = refl; live = refl; demand = refl }) c.in-Ok.ensures.made

pub returns-in-Ok-clause-alone : goal.returns-in-Ok-clause-alone
returns-in-Ok-clause-alone g c =
    let way = c.route_below-route.ensures ∙ ap (λ n. route_below g.N.Nodes c.args.self.now.part n) c.node_of.ensures in
    alone_part g.N.Machine g.N.Nodes (g.O.Ops.meaning c.args.ops.now) c.args.step c.in-Some.inside c.args.self.now _ (sym c.in-Some.is ∙ (c.node_move.ensures ∙ ap (λ r. node_move r c.args.step) way)) c.in-Ok.ensures.alone
