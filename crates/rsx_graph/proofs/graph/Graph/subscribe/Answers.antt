use Rattle.rsx_kinds.specs.Any.{any_machine}
use Rattle.std.proofs.Common.{length, map}
use Rattle.rsx_graph.proofs.Kept.{names_on, state_with}
use Rattle.rsx_graph.proofs.Limits.{join_keeps}
use Rattle.rsx_graph_moves.proofs.Rest.{pushed_idle}
use Rattle.rsx_graph.proofs.graph.Graph.subscribe.Goals as goal

pub invariant_of-self-in-Ok-subscribe-clause-named : goal.invariant_of-self-in-Ok-subscribe-clause-named
invariant_of-self-in-Ok-subscribe-clause-named g c = names_on (length c.args.self.now.hubs.items) (length c.subscribe.new.hubs.items) c.args.self.now.feeds.items c.subscribe.ensures.hubs c.args.self.now.named

pub invariant_of-self-in-Ok-subscribe-clause-resting : goal.invariant_of-self-in-Ok-subscribe-clause-resting
invariant_of-self-in-Ok-subscribe-clause-resting g c =
    let m = g.O.Ops.meaning c.args.self.now.ops in
    let fresh = c.in-Ok-subscribe.ensures.effect m (rw c.deref.ensures.value at c.in-Ok.ensures.built) c.in-Ok.ensures.placed in
    pushed_idle any_machine m c.args.self.now.idle c.remove.new.self c.args.self.now.subscriptions.items c.subscribe.new.subscriptions.items c.in-Ok-subscribe.id.0 fresh.0 c.remove.ensures c.in-Ok-subscribe.ensures.id.0 fresh.1 c.args.self.now.resting

pub returns-in-Ok-subscribe-clause-stands : goal.returns-in-Ok-subscribe-clause-stands
returns-in-Ok-subscribe-clause-stands g c = λ h s.
    let m = g.O.Ops.meaning c.args.self.now.ops in
    record {
      rows = c.in-Ok-subscribe.ensures.stands m c.args.self.now.feeds.items h (rw c.deref.ensures.value at c.in-Ok.ensures.built) s.rows;
      joined = c.in-Ok-subscribe.ensures.joins m c.args.self.now.feeds.items (map (λ v. v.items) c.args.self.now.feed_joins.items) h s.rows s.joined;
      placed = c.in-Ok-subscribe.ensures.regions c.args.self.now.feeds.items h s.placed;
      limits = join_keeps c.args.expr.now c.args.self.now.hubs.items c.subscribe.new.hubs.items c.args.self.now.feeds.items c.in-Ok-subscribe.ensures.joined s.limits;
    }

pub returns-in-Ok-subscribe-clause-effect : goal.returns-in-Ok-subscribe-clause-effect
returns-in-Ok-subscribe-clause-effect g c =
    c.in-Ok-subscribe.ensures.effect (g.O.Ops.meaning c.args.self.now.ops) (rw c.deref.ensures.value at c.in-Ok.ensures.built) c.in-Ok.ensures.placed

pub returns-in-Ok-subscribe-clause-missed : goal.returns-in-Ok-subscribe-clause-missed
returns-in-Ok-subscribe-clause-missed g c = c.in-Ok-subscribe.ensures.missed

pub returns-in-Ok-subscribe-clause-placed : goal.returns-in-Ok-subscribe-clause-placed
returns-in-Ok-subscribe-clause-placed g c = c.in-Ok-subscribe.ensures.placed

pub returns-in-Err-subscribe-clause-same : goal.returns-in-Err-subscribe-clause-same
returns-in-Err-subscribe-clause-same g c =
    let same = c.in-Err-subscribe.ensures.same in
    let feed_joins = map (λ v. v.items) c.args.self.now.feed_joins.items in
    λ i. state_with (same.0 i) c.args.self.now.feeds.items (same.1 i) (map (λ v. v.items) (same.2 i)) feed_joins (same.3 i)
