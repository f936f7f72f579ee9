use Rattle.std.proofs.Common.{◌∙◌, arith, sym}
use Rattle.rsx_graph_state.specs.Moves.{rows_of}
use Rattle.rsx_graph_state.proofs.Graphs.{found}
use Rattle.rsx_graph_state.proofs.Places.{feed_placed, placed_feed}
use Rattle.rsx_graph_moves.proofs.Named.{empty_quiet, silent_quiet}
use Rattle.rsx_graph_moves.proofs.hubs.rests.Goals as goal

pub index-requires : goal.index-requires
index-requires g c =
    let within = (feed_placed c.args.feeds.now.items c.args.hub.0 c.in-Some.at (c.requires.place ∙ c.in-Some.is)).within in
    let all = c.args.feeds.now.ok.0 in
    omega (arith, within, all)

pub returns-in-Some : goal.returns-in-Some
returns-in-Some g c = λ m subs e.
    let feeds = c.args.feeds.now.items in
    let f = c.index.result.now in
    let place = c.requires.place ∙ c.in-Some.is in
    let here = found feeds c.in-Some.at f (feed_placed feeds c.args.hub.0 c.in-Some.at place).within (sym c.index.ensures) in
    let k = c.rests.ensures m e in
    silent_quiet g.N.Machine m (rows_of c.args.hubs.now.items feeds subs) c.args.hub.0 f c.requires.there (placed_feed feeds c.args.hub.0 c.in-Some.at f place here) k.0 k.1

pub returns-in-None-front : goal.returns-in-None-front
returns-in-None-front g c = λ m subs e.
    let hubs = c.args.hubs.now.items in
    let there = found hubs c.args.hub.0 c.index-in-None.result.now c.requires.there (sym c.index-in-None.ensures) in
    empty_quiet g.N.Machine m (rows_of hubs c.args.feeds.now.items subs) c.args.hub.0 c.index-in-None.result.now c.front.result there (c.requires.place ∙ c.in-None.is) c.front.ensures c.in-None-front.is
