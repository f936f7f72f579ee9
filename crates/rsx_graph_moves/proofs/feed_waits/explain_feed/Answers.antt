use Rattle.std.proofs.Common.{◌<◌, ◌∙◌, length, refl, sym, arith}
use Rattle.rsx_graph_state.specs.Moves.{rows_of}
use Rattle.rsx_graph_state.proofs.Calls.{place_is, unknown_feed, unknown_hub}
use Rattle.rsx_graph_state.proofs.Places.{feed_placed}
use Rattle.rsx_graph_moves.proofs.FeedWaits.{feed_always_known, feed_not_for_pump}
use Rattle.rsx_graph_moves.proofs.feed_waits.explain_feed.Goals as goal

pub returns-then-hub-hubs-clause-err : goal.returns-then-hub-hubs-clause-err
returns-then-hub-hubs-clause-err g c =
    (refl, unknown_hub c.args.hub.0 (rows_of c.args.hubs.now c.args.feeds.now c.args.subscriptions.now) c.if-hub-hubs.true)

pub wait_at-requires-clause-within : goal.wait_at-requires-clause-within
wait_at-requires-clause-within g c =
    let feeds = c.args.feeds.now in
    (feed_placed feeds c.args.hub.0 c.in-Some.at (place_is c.args.hub.0 feeds feeds c.place_of.result _ refl c.place_of.ensures c.in-Some.is)).within

pub returns-in-Some-clause-idle : goal.returns-in-Some-clause-idle
returns-in-Some-clause-idle g c = λ m quiet. feed_not_for_pump g.N.Machine g.N.Nodes m (rows_of c.args.hubs.now c.args.feeds.now c.args.subscriptions.now) c.args.hub c.wait_at.result quiet (c.wait_at.ensures m)

pub returns-in-Some-clause-known : goal.returns-in-Some-clause-known
returns-in-Some-clause-known g c = λ m h f stands there within. feed_always_known g.N.Machine g.N.Nodes m (rows_of c.args.hubs.now c.args.feeds.now c.args.subscriptions.now) h c.args.hub f c.wait_at.result stands there within (c.wait_at.ensures m)

pub returns-in-None-clause-err : goal.returns-in-None-clause-err
returns-in-None-clause-err g c =
    let off = c.if-hub-hubs.false in
    let within : c.args.hub.0 < length c.args.hubs.now = omega (arith, off) in
    (refl, unknown_feed c.args.hub.0 (rows_of c.args.hubs.now c.args.feeds.now c.args.subscriptions.now) within (sym c.place_of.ensures ∙ c.in-None.is))
