use Rattle.std.proofs.Common.{◌∙◌, map, sym, refl}
use Rattle.rsx_graph_calls.specs.Regions.{regions_of}
use Rattle.rsx_graph.proofs.Kept.{cancelled_count, on_err, on_ok, past_joins, past_regions, state_with}
use Rattle.rsx_subscriber.specs.Past.{cancelled}
use Rattle.rsx_kinds.specs.Any.{any_machine}
use Rattle.rsx_graph_moves.proofs.Rest.{cancelled_idle}
use Rattle.rsx_graph.proofs.graph.Graph.cancel.Goals as goal

pub invariant_of-self-clause-joined : goal.invariant_of-self-clause-joined
invariant_of-self-clause-joined g c = c.args.self.now.joined ∙ sym (cancelled_count c.args.sub.0 c.args.self.now.subscriptions.items c.cancel.new.subscriptions.items c.cancel.result c.cancel.ensures.effect c.cancel.ensures.same)

pub invariant_of-self-clause-rooted : goal.invariant_of-self-clause-rooted
invariant_of-self-clause-rooted g c = c.args.self.now.rooted ∙ sym (cancelled_count c.args.sub.0 c.args.self.now.subscriptions.items c.cancel.new.subscriptions.items c.cancel.result c.cancel.ensures.effect c.cancel.ensures.same)

pub returns-clause-stands : goal.returns-clause-stands
returns-clause-stands g c =
    let graph = c.args.self.now in
    on_ok c.cancel.result c.cancel.ensures.stands
    (λ k h s. record {
      rows = k (g.O.Ops.meaning graph.ops) graph.hubs.items graph.feeds.items h s.rows;
      joined = past_joins cancelled c.args.sub graph.feeds.items (map (λ v. v.items) graph.joins.items) (map (λ v. v.items) graph.feed_joins.items) h (λ p. refl) s.joined;
      placed = past_regions cancelled c.args.sub graph.feeds.items (regions_of graph.regions) h (λ p. refl) s.placed;
      limits = s.limits;
    })

pub returns-clause-same : goal.returns-clause-same
returns-clause-same g c =
    let graph = c.args.self.now in
    on_err c.cancel.result c.cancel.ensures.same
    (λ same i. state_with graph.hubs.items graph.feeds.items (same i) (map (λ v. v.items) graph.joins.items) (map (λ v. v.items) graph.feed_joins.items) (regions_of graph.regions))

pub invariant_of-self-clause-resting : goal.invariant_of-self-clause-resting
invariant_of-self-clause-resting g c = cancelled_idle any_machine (g.O.Ops.meaning c.args.self.now.ops) c.args.sub.0 c.args.self.now.idle c.remove.new.self c.args.self.now.subscriptions.items c.cancel.new.subscriptions.items c.cancel.result c.remove.ensures c.cancel.ensures.effect c.cancel.ensures.same c.args.self.now.resting
