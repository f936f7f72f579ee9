use Rattle.std.proofs.Common.{map}
use Rattle.rsx_graph.proofs.Kept.{feeds_sent, state_with}
use Rattle.rsx_graph.proofs.Limits.{fed_hub_keeps}
use Rattle.rsx_graph.proofs.graph.Graph.feed_hub.Goals as goal

pub invariant_of-self-clause-sent : goal.invariant_of-self-clause-sent
invariant_of-self-clause-sent g c = feeds_sent _ _ c.feed_hub.result c.args.self.now.feeds.items c.feed_hub.new.feeds.items c.args.self.now.regions c.feed_hub.new.regions c.feed_hub.ensures.sent c.feed_hub.ensures.same c.args.self.now.sent

pub returns-in-Ok-feed_hub-clause-stands : goal.returns-in-Ok-feed_hub-clause-stands
returns-in-Ok-feed_hub-clause-stands g c = λ h s.
    let graph = c.args.self.now in
    let m = g.O.Ops.meaning graph.ops in
    record {
      rows = c.in-Ok-feed_hub.ensures.stands m graph.subscriptions.items h (rw c.deref.ensures.value at c.in-Ok.ensures.built) s.rows;
      joined = c.in-Ok-feed_hub.ensures.joins m graph.subscriptions.items (map (λ v. v.items) graph.joins.items) h s.rows s.joined;
      placed = c.in-Ok-feed_hub.ensures.regions m graph.subscriptions.items h s.rows s.placed;
      limits = fed_hub_keeps c.args.kind c.args.capacity c.args.expr.now graph.hubs.items c.feed_hub.new.hubs.items graph.feeds.items c.feed_hub.new.feeds.items c.in_default.ensures.fine
          (c.in-Ok-feed_hub.ensures.effect m (rw c.deref.ensures.value at c.in-Ok.ensures.built) c.in-Ok.ensures.placed) s.limits;
    }

pub returns-in-Ok-feed_hub-clause-effect : goal.returns-in-Ok-feed_hub-clause-effect
returns-in-Ok-feed_hub-clause-effect g c =
    c.in-Ok-feed_hub.ensures.effect (g.O.Ops.meaning c.args.self.now.ops) (rw c.deref.ensures.value at c.in-Ok.ensures.built) c.in-Ok.ensures.placed

pub returns-in-Ok-feed_hub-clause-missed : goal.returns-in-Ok-feed_hub-clause-missed
returns-in-Ok-feed_hub-clause-missed g c = c.in-Ok-feed_hub.ensures.missed

pub returns-in-Ok-feed_hub-clause-placed : goal.returns-in-Ok-feed_hub-clause-placed
returns-in-Ok-feed_hub-clause-placed g c = c.in-Ok-feed_hub.ensures.placed

pub returns-in-Err-feed_hub-clause-same : goal.returns-in-Err-feed_hub-clause-same
returns-in-Err-feed_hub-clause-same g c =
    let graph = c.args.self.now in
    let same = c.in-Err-feed_hub.ensures.same in
    λ i. state_with (same.0 i) (same.1 i) graph.subscriptions.items (map (λ v. v.items) graph.joins.items) (map (λ v. v.items) (same.2 i)) (same.3 i)
