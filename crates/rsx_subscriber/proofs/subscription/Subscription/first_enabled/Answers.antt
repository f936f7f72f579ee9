use Rattle.std.proofs.Common.{◌≡◌, true, ap, subst, sym, ◌∙◌}
use Rattle.rsx_pipe.specs.Crossing.{route_below}
use Rattle.rsx_sources.specs.Prelude.{Move, Sub}
use Rattle.rsx_subscriber.specs.Moves.{name_of, tree_of}
use Rattle.rsx_subscriber.specs.Stands.{move_enabled_in}
use Rattle.rsx_subscriber.proofs.Moves.{part_named}
use Rattle.rsx_subscriber.proofs.subscription.Subscription.first_enabled.Goals as goal

pub returns-clause-some : goal.returns-clause-some
returns-clause-some g c = λ m.
    let way = c.name_of.ensures ∙ ap (λ r. name_of r (Sub c.args.id) c.in_ok-inside.inside) (c.route_below-route.ensures ∙ ap (λ n. route_below g.N.Nodes c.args.self.now.part n) c.inside_node.ensures) in
    let named = part_named g.N.Machine g.N.Nodes m c.args.id c.args.self.now c.in_ok-inside.inside in
    let P : Move → Type 0 = λ step. (tree_of step ≡ Sub c.args.id) × (move_enabled_in g.N.Machine g.N.Nodes m c.args.self.now step ≡ true) in
    subst P (sym way) (named.tree, named.enabled (c.in_ok-inside.ensures.some m).1)
