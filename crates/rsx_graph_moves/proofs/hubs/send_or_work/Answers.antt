use Rattle.std.proofs.Common.{arith, sym}
use Rattle.rsx_graph_state.specs.Moves.{rows_of}
use Rattle.rsx_graph_state.proofs.Graphs.{found}
use Rattle.rsx_graph_state.proofs.Places.{feed_placed, placed_feed}
use Rattle.rsx_graph_moves.proofs.Moved.{feed_sent, feed_worked}
use Rattle.rsx_graph_moves.proofs.hubs.send_or_work.Goals as goal

pub index-requires : goal.index-requires
index-requires g c =
    let within = (feed_placed c.args.feeds.now.items c.args.hub.0 c.args.at c.requires.place).within in
    let all = c.args.feeds.now.ok.0 in
    omega (arith, within, all)

pub send_from_feed-requires-clause-within : goal.send_from_feed-requires-clause-within
send_from_feed-requires-clause-within g c = λ _ _. (feed_placed c.args.feeds.now.items c.args.hub.0 c.args.at c.requires.place).within

pub returns-in-Ok-clause-made : goal.returns-in-Ok-clause-made
returns-in-Ok-clause-made g c =
    let old = rows_of c.args.hubs.now.items c.args.feeds.now.items c.args.subscriptions.now.items in
    let new = rows_of c.send_from_feed.new.hubs.items c.send_from_feed.new.feeds.items c.send_from_feed.new.subscriptions.items in
    feed_sent g.N.Machine g.N.Nodes (g.O.Ops.meaning c.args.ops.now) c.args.hub c.args.at old new c.requires.there c.requires.place c.in-Ok.ensures.enabled c.in-Ok.ensures.effect

pub index-requires-2 : goal.index-requires-2
index-requires-2 g c =
    let within = (feed_placed c.args.feeds.now.items c.args.hub.0 c.args.at c.requires.place).within in
    let all = c.args.feeds.now.ok.0 in
    omega (arith, within, all)

pub work_in_feed-requires-clause-within : goal.work_in_feed-requires-clause-within
work_in_feed-requires-clause-within g c = λ _ _. (feed_placed c.args.feeds.now.items c.args.hub.0 c.args.at c.requires.place).within

pub returns-in-Ok-work_in_feed-clause-made : goal.returns-in-Ok-work_in_feed-clause-made
returns-in-Ok-work_in_feed-clause-made g c =
    let m = g.O.Ops.meaning c.args.ops.now in
    let n = c.args.hub.0 in
    let feeds = c.args.feeds.now.items in
    let f = c.index-2.result.now in
    let here = found feeds c.args.at f (feed_placed feeds n c.args.at c.requires.place).within (sym c.index-2.ensures) in
    feed_worked g.N.Machine g.N.Nodes m c.args.hub f c.in-Some-first_work.step c.args.hubs.now.items feeds c.work_in_feed.new.feeds.items c.args.subscriptions.now.items
    c.requires.there (placed_feed feeds n c.args.at f c.requires.place here) (c.in-Some-first_work.ensures.some m) c.in-Ok-work_in_feed.ensures.effect
