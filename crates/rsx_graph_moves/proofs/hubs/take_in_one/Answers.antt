use Rattle.std.proofs.Common.{◌∙◌, arith, sym}
use Rattle.rsx_graph_state.specs.Moves.{accepts_at, rows_of}
use Rattle.rsx_graph_state.proofs.Graphs.{found}
use Rattle.rsx_graph_state.proofs.Places.{feed_placed, placed_feed, unfed_there}
use Rattle.rsx_graph_moves.proofs.Moved.{emitter_moved, feed_sent, feed_worked, refused, send_refused}
use Rattle.rsx_graph_moves.proofs.Named.{inside_of_feed, not_quiet_accept, not_quiet_feed, unfed_quiet}
use Rattle.rsx_graph_moves.proofs.hubs.take_in_one.Goals as goal

-- ---- a hub with an emitter

pub accept_unfed-requires-clause-unfed : goal.accept_unfed-requires-clause-unfed
accept_unfed-requires-clause-unfed g c = λ _ _. unfed_there c.args.feeds.now.items c.args.hub.0 (c.requires.place ∙ c.in_default.is)

pub returns-in-Ok-clause-made : goal.returns-in-Ok-clause-made
returns-in-Ok-clause-made g c =
    let old = rows_of c.args.hubs.now.items c.args.feeds.now.items c.args.subscriptions.now.items in
    let new = rows_of c.accept_unfed.new.hubs.items c.accept_unfed.new.feeds.items c.accept_unfed.new.subscriptions.items in
    emitter_moved g.N.Machine g.N.Nodes (g.O.Ops.meaning c.args.ops.now) c.args.hub old new c.in-Ok.ensures.enabled c.in-Ok.ensures.effect

pub returns-in-Err-clause-err : goal.returns-in-Err-clause-err
returns-in-Err-clause-err g c =
    let m = g.O.Ops.meaning c.args.ops.now in
    let n = c.args.hub.0 in
    let old = rows_of c.args.hubs.now.items c.args.feeds.now.items c.args.subscriptions.now.items in
    refused g.N.Machine m old n (accepts_at g.N.Machine old n) c.in-Err.why c.in-Err.ensures.err
    (λ e. unfed_quiet g.N.Machine m old n (unfed_there old.feeds n (c.requires.place ∙ c.in_default.is)) e) (λ e q. not_quiet_accept g.N.Machine m old n e q)

-- ---- a hub with a feed

pub index-requires : goal.index-requires
index-requires g c =
    let within = (feed_placed c.args.feeds.now.items c.args.hub.0 c.in-Some.at (c.requires.place ∙ c.in-Some.is)).within in
    let all = c.args.feeds.now.ok.0 in
    omega (arith, within, all)

pub work_in_feed-requires-clause-within : goal.work_in_feed-requires-clause-within
work_in_feed-requires-clause-within g c = λ _ _. (feed_placed c.args.feeds.now.items c.args.hub.0 c.in-Some.at (c.requires.place ∙ c.in-Some.is)).within

pub work_in_feed-requires-clause-place : goal.work_in_feed-requires-clause-place
work_in_feed-requires-clause-place g c = λ _ _. c.requires.place ∙ c.in-Some.is

pub returns-in-Ok-work_in_feed-clause-made : goal.returns-in-Ok-work_in_feed-clause-made
returns-in-Ok-work_in_feed-clause-made g c =
    let m = g.O.Ops.meaning c.args.ops.now in
    let n = c.args.hub.0 in
    let feeds = c.args.feeds.now.items in
    let place = c.requires.place ∙ c.in-Some.is in
    let f = c.index.result.now in
    let here = found feeds c.in-Some.at f (feed_placed feeds n c.in-Some.at place).within (sym c.index.ensures) in
    feed_worked g.N.Machine g.N.Nodes m c.args.hub f c.in-Some-first_work.step c.args.hubs.now.items feeds c.work_in_feed.new.feeds.items c.args.subscriptions.now.items
    c.requires.there (placed_feed feeds n c.in-Some.at f place here) (c.in-Some-first_work.ensures.some m) c.in-Ok-work_in_feed.ensures.effect

pub returns-in-Err-work_in_feed-clause-err : goal.returns-in-Err-work_in_feed-clause-err
returns-in-Err-work_in_feed-clause-err g c = λ q.
    let m = g.O.Ops.meaning c.args.ops.now in
    let n = c.args.hub.0 in
    let old = rows_of c.args.hubs.now.items c.args.feeds.now.items c.args.subscriptions.now.items in
    let place = c.requires.place ∙ c.in-Some.is in
    let f = c.index.result.now in
    let here = found old.feeds c.in-Some.at f (feed_placed old.feeds n c.in-Some.at place).within (sym c.index.ensures) in
    let k = c.in-Some-first_work.ensures.some m in
    not_quiet_feed g.N.Machine m old n c.in-Some-first_work.step k.0 (inside_of_feed g.N.Machine m old n f c.in-Some-first_work.step c.requires.there (placed_feed old.feeds n c.in-Some.at f place here) k.1) q

pub send_from_feed-requires-clause-within : goal.send_from_feed-requires-clause-within
send_from_feed-requires-clause-within g c = λ _ _. (feed_placed c.args.feeds.now.items c.args.hub.0 c.in-Some.at (c.requires.place ∙ c.in-Some.is)).within

pub send_from_feed-requires-clause-place : goal.send_from_feed-requires-clause-place
send_from_feed-requires-clause-place g c = λ _ _. c.requires.place ∙ c.in-Some.is

pub returns-in-Ok-send_from_feed-clause-made : goal.returns-in-Ok-send_from_feed-clause-made
returns-in-Ok-send_from_feed-clause-made g c =
    let old = rows_of c.args.hubs.now.items c.args.feeds.now.items c.args.subscriptions.now.items in
    let new = rows_of c.send_from_feed.new.hubs.items c.send_from_feed.new.feeds.items c.send_from_feed.new.subscriptions.items in
    feed_sent g.N.Machine g.N.Nodes (g.O.Ops.meaning c.args.ops.now) c.args.hub c.in-Some.at old new c.requires.there (c.requires.place ∙ c.in-Some.is) c.in-Ok-send_from_feed.ensures.enabled c.in-Ok-send_from_feed.ensures.effect

pub returns-in-Err-send_from_feed-clause-err : goal.returns-in-Err-send_from_feed-clause-err
returns-in-Err-send_from_feed-clause-err g c =
    let m = g.O.Ops.meaning c.args.ops.now in
    let n = c.args.hub.0 in
    let old = rows_of c.args.hubs.now.items c.args.feeds.now.items c.args.subscriptions.now.items in
    let place = c.requires.place ∙ c.in-Some.is in
    let f = c.index.result.now in
    let here = found old.feeds c.in-Some.at f (feed_placed old.feeds n c.in-Some.at place).within (sym c.index.ensures) in
    send_refused g.N.Machine m old n c.in-Some.at f c.in-Err-send_from_feed.why c.requires.there place (placed_feed old.feeds n c.in-Some.at f place here) (c.in_default-first_work.ensures.none m) c.in-Err-send_from_feed.ensures.err
