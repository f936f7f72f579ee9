use Rattle.std.proofs.Common.{◌∙◌, ap, length, refl, sym}
use Rattle.std.proofs.lemmas.Option.{slice_get_read}
use Rattle.rsx_graph_state.specs.Moves.{rows_of}
use Rattle.rsx_graph_state.proofs.Places.{placed_feed}
use Rattle.rsx_graph_moves.proofs.FeedWaits.{feed_awaits, feed_finds_none, feed_misses, hub_there}
use Rattle.rsx_graph_moves.proofs.feed_waits.lacking_wait.Goals as goal

pub returns-in_default : goal.returns-in_default
returns-in_default g c = λ m.
    let feeds = c.args.feeds.now in
    let f = c.index-feeds-at.result in
    let hub = hub_there c.args.hubs.now c.args.hub.0 c.requires.there in
    let here = slice_get_read feeds (length feeds) c.args.at f refl c.requires.within c.index-feeds-at.is in
    feed_finds_none g.N.Machine g.N.Nodes m (rows_of c.args.hubs.now feeds c.args.subscriptions.now) c.args.hub hub.0 f c.rooted-rooted.result.now hub.1 (placed_feed feeds c.args.hub.0 c.args.at f c.requires.place here) (c.requires.silent m hub.0 hub.1) (c.rooted-rooted.ensures ∙ ap (λ x. x.part) (sym c.index-feeds-at.is)) (c.requires.live f here) (c.in_default.ensures.idle m)

pub returns-then-leaf-hubs : goal.returns-then-leaf-hubs
returns-then-leaf-hubs g c = λ m.
    let feeds = c.args.feeds.now in
    let f = c.index-feeds-at.result in
    let hub = hub_there c.args.hubs.now c.args.hub.0 c.requires.there in
    let here = slice_get_read feeds (length feeds) c.args.at f refl c.requires.within c.index-feeds-at.is in
    feed_misses g.N.Machine g.N.Nodes m (rows_of c.args.hubs.now feeds c.args.subscriptions.now) c.args.hub hub.0 f c.rooted-rooted.result.now _ _ hub.1 (placed_feed feeds c.args.hub.0 c.args.at f c.requires.place here) (c.requires.silent m hub.0 hub.1) (c.rooted-rooted.ensures ∙ ap (λ x. x.part) (sym c.index-feeds-at.is)) (c.requires.live f here) c.in-Some.ensures.some c.if-leaf-hubs.true

pub returns : goal.returns
returns g c = λ m.
    let feeds = c.args.feeds.now in
    let f = c.index-feeds-at.result in
    let hub = hub_there c.args.hubs.now c.args.hub.0 c.requires.there in
    let here = slice_get_read feeds (length feeds) c.args.at f refl c.requires.within c.index-feeds-at.is in
    feed_awaits g.N.Machine g.N.Nodes m (rows_of c.args.hubs.now feeds c.args.subscriptions.now) c.args.hub hub.0 f c.rooted-rooted.result.now _ _ c.in-Some.leaf.hub c.hub_wait-why.result hub.1 (placed_feed feeds c.args.hub.0 c.args.at f c.requires.place here) (c.requires.silent m hub.0 hub.1) (c.rooted-rooted.ensures ∙ ap (λ x. x.part) (sym c.index-feeds-at.is)) c.in-Some.ensures.some refl (c.hub_wait-why.ensures m)
