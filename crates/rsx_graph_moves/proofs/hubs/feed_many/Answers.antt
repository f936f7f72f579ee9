use Rattle.std.proofs.Common.{◌+◌, ◌<◌, ◌∙◌, arith, length, subst, sym}
use Rattle.rsx_graph_state.specs.Moves.{rows_of}
use Rattle.rsx_graph_state.proofs.Places.{feed_placed}
use Rattle.rsx_graph_moves.proofs.TakenIn.{fed_many, fed_one}
use Rattle.rsx_graph_moves.proofs.hubs.feed_many.Goals as goal

pub may_send_many-requires-clause-within : goal.may_send_many-requires-clause-within
may_send_many-requires-clause-within g c =
    let within = (feed_placed c.args.feeds.now.items c.args.hub.0 c.args.at c.requires.place).within in
    subst (λ l. c.args.at < length l) (sym c.deref.ensures.value) within

pub send_many-many-requires-clause-place : goal.send_many-many-requires-clause-place
send_many-many-requires-clause-place g c = λ _ _.
    let first = rows_of c.args.hubs.now.items c.args.feeds.now.items c.args.subscriptions.now.items in
    let before = rows_of c.rounds.hubs.items c.rounds.feeds.items c.rounds.subscriptions.items in
    let after = rows_of c.send_or_work.new.hubs.items c.send_or_work.new.feeds.items c.send_or_work.new.subscriptions.items in
    let i = c.rounds.invariant in
    (fed_one g.N.Machine g.N.Nodes (g.O.Ops.meaning c.args.ops.now) c.args.hub c.args.skipped.now first before after c.rounds.made c.requires.unread i.moves i.awake c.in-Ok.ensures.made).place ∙ c.requires.place

pub send_many-many-requires-clause-within : goal.send_many-many-requires-clause-within
send_many-many-requires-clause-within g c = λ x y.
    (feed_placed c.send_or_work.new.feeds.items c.args.hub.0 c.args.at (send_many-many-requires-clause-place g c x y)).within

pub send_many-many-requires-clause-unread : goal.send_many-many-requires-clause-unread
send_many-many-requires-clause-unread g c = λ _ _.
    let first = rows_of c.args.hubs.now.items c.args.feeds.now.items c.args.subscriptions.now.items in
    let before = rows_of c.rounds.hubs.items c.rounds.feeds.items c.rounds.subscriptions.items in
    let after = rows_of c.send_or_work.new.hubs.items c.send_or_work.new.feeds.items c.send_or_work.new.subscriptions.items in
    let i = c.rounds.invariant in
    (fed_one g.N.Machine g.N.Nodes (g.O.Ops.meaning c.args.ops.now) c.args.hub c.args.skipped.now first before after c.rounds.made c.requires.unread i.moves i.awake c.in-Ok.ensures.made).unread

pub rounds-preserved : goal.rounds-preserved
rounds-preserved g c =
    let m = g.O.Ops.meaning c.args.ops.now in
    let first = rows_of c.args.hubs.now.items c.args.feeds.now.items c.args.subscriptions.now.items in
    let before = rows_of c.rounds.hubs.items c.rounds.feeds.items c.rounds.subscriptions.items in
    let mid = rows_of c.send_or_work.new.hubs.items c.send_or_work.new.feeds.items c.send_or_work.new.subscriptions.items in
    let after = rows_of c.send_many-many.new.hubs.items c.send_many-many.new.feeds.items c.send_many-many.new.subscriptions.items in
    let i = c.rounds.invariant in
    let one = fed_one g.N.Machine g.N.Nodes m c.args.hub c.args.skipped.now first before mid c.rounds.made c.requires.unread i.moves i.awake c.in-Ok.ensures.made in
    let k = fed_many g.N.Machine g.N.Nodes m c.args.hub c.args.skipped.now first mid after (c.rounds.made + 1) c.send_many-many.result c.requires.unread one c.send_many-many.ensures.made in
    let most = c.send_many-many.ensures.most in
    let less = c.rounds-test.true in
    record {
      hubs = c.send_many-many.ensures.hubs ∙ (c.send_or_work.ensures.hubs ∙ i.hubs);
      feeds = c.send_many-many.ensures.feeds ∙ (c.send_or_work.ensures.feeds ∙ i.feeds);
      subscriptions = c.send_many-many.ensures.subscriptions ∙ (c.send_or_work.ensures.subscriptions ∙ i.subscriptions);
      moves = k.moves;
      awake = λ _. k.awake;
      most = omega (arith, most, less);
      place = k.place ∙ c.requires.place;
      unread = k.unread;
      empty = c.send_or_work.ensures.empty;
    }
