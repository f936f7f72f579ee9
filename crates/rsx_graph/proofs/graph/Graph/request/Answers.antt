use Rattle.std.proofs.Common.{◌∙◌, map, sym, w64}
use Rattle.std.proofs.lemmas.Int.{to_z-of_z}
use Rattle.rsx_graph_calls.specs.Regions.{regions_of}
use Rattle.rsx_graph.proofs.Kept.{requested_count, on_err, on_ok, past_joins, past_regions, requested_expression, state_with}
use Rattle.rsx_graph_state.proofs.Graphs.{requested_joins}
use Rattle.rsx_subscriber.specs.Past.{requested}
use Rattle.rsx_kinds.specs.Any.{any_machine}
use Rattle.rsx_graph_moves.proofs.Rest.{requested_idle}
use Rattle.rsx_graph.proofs.graph.Graph.request.Goals as goal

pub invariant_of-self-clause-joined : goal.invariant_of-self-clause-joined
invariant_of-self-clause-joined g c = c.args.self.now.joined ∙ sym (requested_count c.args.sub.0 _ c.args.self.now.subscriptions.items c.request.new.subscriptions.items c.request.result c.request.ensures.effect c.request.ensures.same)

pub invariant_of-self-clause-rooted : goal.invariant_of-self-clause-rooted
invariant_of-self-clause-rooted g c = c.args.self.now.rooted ∙ sym (requested_count c.args.sub.0 _ c.args.self.now.subscriptions.items c.request.new.subscriptions.items c.request.result c.request.ensures.effect c.request.ensures.same)

pub returns-clause-stands : goal.returns-clause-stands
returns-clause-stands g c =
    let graph = c.args.self.now in
    on_ok c.request.result (rw (to_z-of_z w64 c.args.n c.ranges.n) at c.request.ensures.stands)
    (λ k h s. record {
      rows = k (g.O.Ops.meaning graph.ops) graph.hubs.items graph.feeds.items h s.rows;
      joined = past_joins (requested c.args.n) c.args.sub graph.feeds.items (map (λ v. v.items) graph.joins.items) (map (λ v. v.items) graph.feed_joins.items) h (requested_joins c.args.n) s.joined;
      placed = past_regions (requested c.args.n) c.args.sub graph.feeds.items (regions_of graph.regions) h (requested_expression c.args.n) s.placed;
      limits = s.limits;
    })

pub returns-clause-effect : goal.returns-clause-effect
returns-clause-effect g c = rw (to_z-of_z w64 c.args.n c.ranges.n) at c.request.ensures.effect

pub returns-clause-same : goal.returns-clause-same
returns-clause-same g c =
    let graph = c.args.self.now in
    on_err c.request.result c.request.ensures.same
    (λ same i. state_with graph.hubs.items graph.feeds.items (same i) (map (λ v. v.items) graph.joins.items) (map (λ v. v.items) graph.feed_joins.items) (regions_of graph.regions))

pub invariant_of-self-clause-resting : goal.invariant_of-self-clause-resting
invariant_of-self-clause-resting g c = requested_idle any_machine (g.O.Ops.meaning c.args.self.now.ops) c.args.sub.0 _ c.args.self.now.idle c.remove.new.self c.args.self.now.subscriptions.items c.request.new.subscriptions.items c.request.result c.remove.ensures c.request.ensures.effect c.request.ensures.same c.args.self.now.resting
