use Rattle.std.proofs.Common.{◌∙◌, ap, arith, length, sym}
use Rattle.rsx_graph_state.proofs.Calls.{place_is}
use Rattle.rsx_graph_state.proofs.Places.{feed_placed, placed_feed, unfed_there}
use Rattle.rsx_graph_state.proofs.Graphs.{found}
use Rattle.rsx_subscriber.specs.Prelude.{route, node_move}
use Rattle.rsx_graph_moves.specs.Moves.{move_in}
use Rattle.rsx_graph_moves.proofs.moves.move_in_feed.Goals as goal

pub index-requires : goal.index-requires
index-requires g c =
    let feeds = c.args.feeds.now.items in
    let placed = place_is c.args.hub.0 feeds c.deref.result.now c.place_of.result _ c.deref.ensures.value c.place_of.ensures c.in-Some.is in
    let within = (feed_placed feeds c.args.hub.0 c.in-Some.at placed).within in
    let same = ap length c.deref.ensures.value in
    let all = c.deref.ensures.len in
    omega (arith, within, same, all)

pub returns-in-Some : goal.returns-in-Some
returns-in-Some g c =
    let feeds = c.args.feeds.now.items in
    let f = c.index.result.now in
    let placed = place_is c.args.hub.0 feeds c.deref.result.now c.place_of.result _ c.deref.ensures.value c.place_of.ensures c.in-Some.is in
    let here = found feeds c.in-Some.at f (feed_placed feeds c.args.hub.0 c.in-Some.at placed).within (sym c.index.ensures) in
    let way = c.route-route.ensures ∙ ap (λ n. route g.N.Nodes f.part n) c.node_of.ensures in
    c.node_move.ensures ∙ (ap (λ r. node_move r c.args.step) way ∙ sym (ap (λ o. move_in g.N.Nodes o c.args.step) (placed_feed feeds c.args.hub.0 c.in-Some.at f placed here)))

pub returns-in-None : goal.returns-in-None
returns-in-None g c =
    let feeds = c.args.feeds.now.items in
    let none = place_is c.args.hub.0 feeds c.deref.result.now c.place_of.result _ c.deref.ensures.value c.place_of.ensures c.in-None.is in
    sym (ap (λ o. move_in g.N.Nodes o c.args.step) (unfed_there feeds c.args.hub.0 none))
