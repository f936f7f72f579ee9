use Rattle.std.proofs.Common.{map}
use Rattle.rsx_graph_calls.specs.Regions.{regions_of}
use Rattle.rsx_graph.proofs.Kept.{emitted_graph, on_both, on_err, state_with}
use Rattle.rsx_graph.specs.InGraph.{state_of}
use Rattle.rsx_graph.proofs.graph.Graph.emit.Goals as goal

pub returns-clause-stands : goal.returns-clause-stands
returns-clause-stands g c =
    let graph = c.args.self.now in
    on_both c.emit.result c.emit.ensures.effect c.emit.ensures.known
    (λ effect known h s. emitted_graph (g.O.Ops.meaning graph.ops) c.args.item c.args.hub (state_of graph) c.emit.new.hubs.items h effect known s)

pub returns-clause-same : goal.returns-clause-same
returns-clause-same g c =
    let graph = c.args.self.now in
    on_err c.emit.result c.emit.ensures.same
    (λ same i. state_with (same i) graph.feeds.items graph.subscriptions.items (map (λ v. v.items) graph.joins.items) (map (λ v. v.items) graph.feed_joins.items) (regions_of graph.regions))
