use Rattle.std.proofs.Common.{length, refl, arith}
use Rattle.std.proofs.lemmas.Option.{slice_get_read}
use Rattle.rsx_graph_state.proofs.Calls.{place_is}
use Rattle.rsx_graph_state.proofs.Places.{feed_placed}
use Rattle.rsx_graph_moves.proofs.hub_waits.hub_wait.Goals as goal

pub feed_wait-requires-clause-within : goal.feed_wait-requires-clause-within
feed_wait-requires-clause-within g c =
    let feeds = c.args.feeds.now in
    (feed_placed feeds c.args.hub.0 c.in-Some.at (place_is c.args.hub.0 feeds feeds c.place_of.result _ refl c.place_of.ensures c.in-Some.is)).within

pub emitter_wait-requires-clause-small : goal.emitter_wait-requires-clause-small
emitter_wait-requires-clause-small g c = let l = c.requires.there in let few = c.requires.few_hubs in omega (arith, l, few)

pub returns-in-Some : goal.returns-in-Some
returns-in-Some g c = λ m.
    let hubs = c.args.hubs.now in
    let there = slice_get_read hubs (length hubs) c.args.hub.0 c.index-hubs-hub.result refl c.requires.there c.index-hubs-hub.is in
    record { hub = c.index-hubs-hub.result; there = there; why = c.feed_wait.ensures m hubs there }

pub returns-in-None : goal.returns-in-None
returns-in-None g c = λ m.
    let hubs = c.args.hubs.now in
    let there = slice_get_read hubs (length hubs) c.args.hub.0 c.index-hubs-hub.result refl c.requires.there c.index-hubs-hub.is in
    record { hub = c.index-hubs-hub.result; there = there; why = c.emitter_wait.ensures m hubs there }
