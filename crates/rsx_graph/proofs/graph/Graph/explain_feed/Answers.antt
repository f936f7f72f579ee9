use Rattle.std.proofs.Common.{arith}
use Rattle.rsx_graph.proofs.Limits.{feed_bounded}
use Rattle.rsx_graph.proofs.graph.Graph.explain_feed.Goals as goal

pub explain_feed-requires-clause-few : goal.explain_feed-requires-clause-few
explain_feed-requires-clause-few g c = let few = c.args.self.now.few in rw c.deref-3.ensures.value (omega (arith, few))

pub explain_feed-requires-clause-few_hubs : goal.explain_feed-requires-clause-few_hubs
explain_feed-requires-clause-few_hubs g c = let few = c.args.self.now.few_hubs in rw c.deref.ensures.value (omega (arith, few))

pub returns-clause-waits : goal.returns-clause-waits
returns-clause-waits g c = rw (c.deref.ensures.value, c.deref-2.ensures.value, c.deref-3.ensures.value) at (c.explain_feed.ensures.waits (g.O.Ops.meaning c.args.self.now.ops))

pub returns-clause-err : goal.returns-clause-err
returns-clause-err g c = rw (c.deref.ensures.value, c.deref-2.ensures.value) at c.explain_feed.ensures.err

pub returns-clause-idle : goal.returns-clause-idle
returns-clause-idle g c = rw (c.deref.ensures.value, c.deref-2.ensures.value, c.deref-3.ensures.value) at (c.explain_feed.ensures.idle (g.O.Ops.meaning c.args.self.now.ops))

pub returns-clause-known : goal.returns-clause-known
returns-clause-known g c = λ h s f there fewer within.
    let known = rw (c.deref.ensures.value, c.deref-2.ensures.value, c.deref-3.ensures.value) at (c.explain_feed.ensures.known (g.O.Ops.meaning c.args.self.now.ops)) in
    known h f s.rows there (feed_bounded c.args.self.now.feeds.items c.args.hub.0 f s.limits.nodes there fewer within)
