use Rattle.std.proofs.Common.{◌<◌, arith, length, sym}
use Rattle.rsx_graph_state.proofs.Calls.{known_feed, place_is, unknown_feed}
use Rattle.rsx_graph_state.specs.Moves.{rows_of}
use Rattle.rsx_graph_moves.proofs.moves.is_fed.Goals as goal

pub returns-in-Some : goal.returns-in-Some
returns-in-Some g c = λ subscriptions.
    let l = c.len.ensures in
    let within : c.args.hub.0 < length c.args.hubs.now.items = omega (arith, l, c.if-hub-len.false) in
    sym (known_feed c.args.hub.0 c.in-Some.field-0 (rows_of c.args.hubs.now.items c.args.feeds.now.items subscriptions) within (place_is c.args.hub.0 c.args.feeds.now.items c.deref.result.now c.place_of.result _ c.deref.ensures.value c.place_of.ensures c.in-Some.is))

pub returns-in-None : goal.returns-in-None
returns-in-None g c = λ subscriptions.
    let l = c.len.ensures in
    let within : c.args.hub.0 < length c.args.hubs.now.items = omega (arith, l, c.if-hub-len.false) in
    sym (unknown_feed c.args.hub.0 (rows_of c.args.hubs.now.items c.args.feeds.now.items subscriptions) within (place_is c.args.hub.0 c.args.feeds.now.items c.deref.result.now c.place_of.result _ c.deref.ensures.value c.place_of.ensures c.in-None.is))
