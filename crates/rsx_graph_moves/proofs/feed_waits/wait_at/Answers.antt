use Rattle.std.proofs.Common.{length, refl}
use Rattle.std.proofs.lemmas.Option.{slice_get_read}
use Rattle.rsx_graph_state.specs.Moves.{rows_of}
use Rattle.rsx_graph_state.proofs.Places.{feed_placed}
use Rattle.rsx_graph_moves.proofs.FeedWaits.{feed_held, feed_moves, feed_none, silent_at}
use Rattle.rsx_graph_moves.proofs.feed_waits.wait_at.Goals as goal

pub returns-in-Enabled : goal.returns-in-Enabled
returns-in-Enabled g c = λ m.
    let hubs = c.args.hubs.now in
    let there = slice_get_read hubs (length hubs) c.args.hub.0 c.index-hubs-hub.result refl c.requires.there c.index-hubs-hub.is in
    let f = feed_placed c.args.feeds.now c.args.hub.0 c.args.at c.requires.place in
    feed_moves g.N.Machine g.N.Nodes m (rows_of hubs c.args.feeds.now c.args.subscriptions.now) c.args.hub c.index-hubs-hub.result f.feed c.in-Enabled.step there f.named (c.in-Enabled.ensures m hubs there)

pub returns-in-HeldBy : goal.returns-in-HeldBy
returns-in-HeldBy g c = λ m.
    let hubs = c.args.hubs.now in
    let there = slice_get_read hubs (length hubs) c.args.hub.0 c.index-hubs-hub.result refl c.requires.there c.index-hubs-hub.is in
    let f = feed_placed c.args.feeds.now c.args.hub.0 c.args.at c.requires.place in
    feed_held g.N.Machine g.N.Nodes m (rows_of hubs c.args.feeds.now c.args.subscriptions.now) c.args.hub c.index-hubs-hub.result f.feed c.in-HeldBy.tree there f.named (c.in-HeldBy.ensures m hubs there)

pub silent_wait-requires-clause-silent : goal.silent_wait-requires-clause-silent
silent_wait-requires-clause-silent g c = λ m state is.
    let hubs = c.args.hubs.now in
    let there = slice_get_read hubs (length hubs) c.args.hub.0 c.index-hubs-hub.result refl c.requires.there c.index-hubs-hub.is in
    silent_at g.N.Machine m (rows_of hubs c.args.feeds.now c.args.subscriptions.now) c.args.hub.0 c.index-hubs-hub.result state there is (c.in-Feed.ensures m hubs there)

pub returns-in-Nothing : goal.returns-in-Nothing
returns-in-Nothing g c = λ m.
    let hubs = c.args.hubs.now in
    let there = slice_get_read hubs (length hubs) c.args.hub.0 c.index-hubs-hub.result refl c.requires.there c.index-hubs-hub.is in
    let f = feed_placed c.args.feeds.now c.args.hub.0 c.args.at c.requires.place in
    absurd (feed_none g.N.Machine g.N.Nodes m (rows_of hubs c.args.feeds.now c.args.subscriptions.now) c.args.hub c.index-hubs-hub.result f.feed f.named (c.in-Nothing.ensures m hubs there))
