use Rattle.std.proofs.Common.{map}
use Rattle.rsx_graph_calls.specs.Regions.{regions_of}
use Rattle.rsx_graph.proofs.Kept.{begun_hub, names_hub, on_err, on_ok, state_with}
use Rattle.rsx_graph.specs.InGraph.{state_of}
use Rattle.rsx_graph.proofs.graph.Graph.hub.Goals as goal

pub invariant_of-self-clause-named : goal.invariant_of-self-clause-named
invariant_of-self-clause-named g c = names_hub c.args.self.now.hubs.items c.hub.new.hubs.items c.args.self.now.feeds.items c.hub.result c.hub.ensures.named c.hub.ensures.same c.args.self.now.named

pub returns-clause-stands : goal.returns-clause-stands
returns-clause-stands g c =
    let graph = c.args.self.now in
    on_ok c.hub.result c.hub.ensures.effect
    (λ effect h s. begun_hub (g.O.Ops.meaning graph.ops) c.args.kind c.args.capacity (state_of graph) c.hub.new.hubs.items h effect graph.named s)

pub returns-clause-same : goal.returns-clause-same
returns-clause-same g c =
    let graph = c.args.self.now in
    on_err c.hub.result c.hub.ensures.same
    (λ same i. state_with (same i) graph.feeds.items graph.subscriptions.items (map (λ v. v.items) graph.joins.items) (map (λ v. v.items) graph.feed_joins.items) (regions_of graph.regions))
