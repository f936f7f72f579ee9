use Rattle.std.proofs.Common.{◌∙◌, ap, length, refl, sym}
use Rattle.std.proofs.lemmas.Option.{slice_get_read}
use Rattle.rsx_graph_state.specs.Moves.{rows_of}
use Rattle.rsx_graph_state.proofs.Places.{placed_feed}
use Rattle.rsx_pipe.proofs.Signals.{some_same}
use Rattle.rsx_graph_moves.proofs.FeedWaits.{feed_closed, feed_ended, hub_there}
use Rattle.rsx_graph_moves.proofs.feed_waits.silent_wait.Goals as goal

pub lacking_wait-requires-clause-live : goal.lacking_wait-requires-clause-live
lacking_wait-requires-clause-live g c = λ f is.
    let feeds = c.args.feeds.now in
    let here = slice_get_read feeds (length feeds) c.args.at c.index-feeds-at.result refl c.requires.within c.index-feeds-at.is in
    ap (λ x. x.part.root.state) (some_same f c.index-feeds-at.result (sym is ∙ here)) ∙ (ap (λ x. x.root.state) (sym (c.rooted.ensures ∙ ap (λ x. x.part) (sym c.index-feeds-at.is))) ∙ c.in-Live.is)

pub returns-in-Ended : goal.returns-in-Ended
returns-in-Ended g c = λ m.
    let feeds = c.args.feeds.now in
    let hub = hub_there c.args.hubs.now c.args.hub.0 c.requires.there in
    let here = slice_get_read feeds (length feeds) c.args.at c.index-feeds-at.result refl c.requires.within c.index-feeds-at.is in
    feed_ended g.N.Machine g.N.Nodes m (rows_of c.args.hubs.now feeds c.args.subscriptions.now) c.args.hub hub.0 c.index-feeds-at.result c.rooted.result.now hub.1 (placed_feed feeds c.args.hub.0 c.args.at c.index-feeds-at.result c.requires.place here) (c.rooted.ensures ∙ ap (λ x. x.part) (sym c.index-feeds-at.is)) c.in-Ended.is

pub returns-in-Closed : goal.returns-in-Closed
returns-in-Closed g c = λ m.
    let feeds = c.args.feeds.now in
    let hub = hub_there c.args.hubs.now c.args.hub.0 c.requires.there in
    let here = slice_get_read feeds (length feeds) c.args.at c.index-feeds-at.result refl c.requires.within c.index-feeds-at.is in
    feed_closed g.N.Machine g.N.Nodes m (rows_of c.args.hubs.now feeds c.args.subscriptions.now) c.args.hub hub.0 c.index-feeds-at.result c.rooted.result.now hub.1 (placed_feed feeds c.args.hub.0 c.args.at c.index-feeds-at.result c.requires.place here) (c.requires.silent m hub.0 hub.1) (c.rooted.ensures ∙ ap (λ x. x.part) (sym c.index-feeds-at.is)) c.in-Closed.is
