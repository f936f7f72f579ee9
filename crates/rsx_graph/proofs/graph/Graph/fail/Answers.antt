use Rattle.std.proofs.Common.{map, refl}
use Rattle.rsx_graph_calls.specs.Regions.{regions_of}
use Rattle.rsx_graph.proofs.Kept.{ended_graph, on_both, on_err, state_with}
use Rattle.rsx_graph.specs.InGraph.{state_of}
use Rattle.rsx_sources.specs.Prelude.{User, Error, Failed}
use Rattle.rsx_graph.proofs.graph.Graph.fail.Goals as goal

pub returns-clause-stands : goal.returns-clause-stands
returns-clause-stands g c =
    let graph = c.args.self.now in
    on_both c.fail.result c.fail.ensures.effect c.fail.ensures.known
    (λ effect known h s. ended_graph (g.O.Ops.meaning graph.ops) (Error (User c.args.number)) (Failed (User c.args.number)) c.args.hub (state_of graph) c.fail.new.hubs.items h (λ w. refl) effect known s)

pub returns-clause-same : goal.returns-clause-same
returns-clause-same g c =
    let graph = c.args.self.now in
    on_err c.fail.result c.fail.ensures.same
    (λ same i. state_with (same i) graph.feeds.items graph.subscriptions.items (map (λ v. v.items) graph.joins.items) (map (λ v. v.items) graph.feed_joins.items) (regions_of graph.regions))
