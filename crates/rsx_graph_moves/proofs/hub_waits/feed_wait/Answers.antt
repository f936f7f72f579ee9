use Rattle.std.proofs.Common.{◌≡◌, ◌∙◌, ap, false, length, refl, subst, sym, true, ℕ, None, Some}
use Rattle.std.proofs.lemmas.Option.{slice_get_read}
use Rattle.rsx_sources.specs.declared.machine.Front.TheVariants.{Item, Completion, Failure}
use Rattle.rsx_graph_state.specs.Publishing.{all_have_room}
use Rattle.rsx_graph_state.proofs.Places.{placed_feed}
use Rattle.rsx_graph_moves.proofs.Named.{feeds_there}
use Rattle.rsx_graph_moves.specs.Hubs.{IsFull}
use Rattle.rsx_graph_moves.proofs.HubWaits.{ended_there, feed_held_there, sent_there, silent_there, worked_there}
use Rattle.rsx_graph_moves.proofs.hub_waits.feed_wait.Goals as goal

pub returns-in-Some : goal.returns-in-Some
returns-in-Some g c = λ m hubs there.
    let f = c.index-feeds-at.result in
    let feeds = c.args.feeds.now in
    let subs = c.args.subscriptions.now in
    let here = slice_get_read feeds (length feeds) c.args.at f refl c.requires.within c.index-feeds-at.is in
    let placed = placed_feed feeds c.args.hub.0 c.args.at f c.requires.place here in
    let can = c.in-Some.ensures.some m in
    worked_there g.N.Machine g.N.Nodes m hubs feeds subs c.args.hub c.args.state.now f c.in-Some.inside c.name_in_feed.result placed there c.name_in_feed.ensures can.0 can.1

pub returns-then-can_feed : goal.returns-then-can_feed
returns-then-can_feed g c = λ m hubs there.
    let f = c.index-feeds-at.result in
    let feeds = c.args.feeds.now in
    let subs = c.args.subscriptions.now in
    let here = slice_get_read feeds (length feeds) c.args.at f refl c.requires.within c.index-feeds-at.is in
    let placed = placed_feed feeds c.args.hub.0 c.args.at f c.requires.place here in
    sent_there g.N.Machine g.N.Nodes m hubs feeds subs c.args.hub c.args.state.now f c.name_in_feed-then-can_feed.result placed there c.name_in_feed-then-can_feed.ensures
    (feeds_there g.N.Machine m c.args.at c.args.state.now f feeds feeds subs subs true c.can_feed.result here refl refl (c.can_feed.ensures m) c.if-can_feed.true)

pub returns-in-Some-first_full : goal.returns-in-Some-first_full
returns-in-Some-first_full g c = λ m hubs there.
    let f = c.index-feeds-at.result in
    let feeds = c.args.feeds.now in
    let subs = c.args.subscriptions.now in
    let here = slice_get_read feeds (length feeds) c.args.at f refl c.requires.within c.index-feeds-at.is in
    let placed = placed_feed feeds c.args.hub.0 c.args.at f c.requires.place here in
    let F : ℕ → Type 0 = λ k. IsFull g.N.Machine feeds subs k c.in-Some-first_full.tree in
    feed_held_there g.N.Machine g.N.Nodes m hubs feeds subs c.args.hub c.args.state.now f c.in-Some-first_full.tree placed (sym (c.in-Some-Item.is ∙ ap Some c.in-Some-Item.field-0-is) ∙ c.next_out.ensures m) (subst F c.from.ensures c.in-Some-first_full.ensures.some)

pub returns-in-None-first_full : goal.returns-in-None-first_full
returns-in-None-first_full g c = λ m hubs there.
    let f = c.index-feeds-at.result in
    let feeds = c.args.feeds.now in
    let subs = c.args.subscriptions.now in
    let here = slice_get_read feeds (length feeds) c.args.at f refl c.requires.within c.index-feeds-at.is in
    let placed = placed_feed feeds c.args.hub.0 c.args.at f c.requires.place here in
    let off = feeds_there g.N.Machine m c.args.at c.args.state.now f feeds feeds subs subs false c.can_feed.result here refl refl (c.can_feed.ensures m) c.if-can_feed.false in
    let F : ℕ → Type 0 = λ k. all_have_room g.N.Machine k feeds subs ≡ true in
    silent_there g.N.Machine g.N.Nodes m hubs feeds subs c.args.hub c.args.state.now f placed (c.in_default.ensures.none m) off (subst F c.from.ensures c.in-None-first_full.ensures.none)

pub returns-in-Some-Completion : goal.returns-in-Some-Completion
returns-in-Some-Completion g c = λ m hubs there.
    let f = c.index-feeds-at.result in
    let feeds = c.args.feeds.now in
    let subs = c.args.subscriptions.now in
    let here = slice_get_read feeds (length feeds) c.args.at f refl c.requires.within c.index-feeds-at.is in
    let placed = placed_feed feeds c.args.hub.0 c.args.at f c.requires.place here in
    let off = feeds_there g.N.Machine m c.args.at c.args.state.now f feeds feeds subs subs false c.can_feed.result here refl refl (c.can_feed.ensures m) c.if-can_feed.false in
    ended_there g.N.Machine g.N.Nodes m hubs feeds subs c.args.hub c.args.state.now f c.next_out.result placed (c.in_default.ensures.none m) off (c.next_out.ensures m)
    (λ e. let other : Some Completion ≡ Some Item = sym (c.in-Some-Completion.is ∙ ap Some c.in-Some-Completion.field-0-is) ∙ e in cc)

pub returns-in-Some-Failure : goal.returns-in-Some-Failure
returns-in-Some-Failure g c = λ m hubs there.
    let f = c.index-feeds-at.result in
    let feeds = c.args.feeds.now in
    let subs = c.args.subscriptions.now in
    let here = slice_get_read feeds (length feeds) c.args.at f refl c.requires.within c.index-feeds-at.is in
    let placed = placed_feed feeds c.args.hub.0 c.args.at f c.requires.place here in
    let off = feeds_there g.N.Machine m c.args.at c.args.state.now f feeds feeds subs subs false c.can_feed.result here refl refl (c.can_feed.ensures m) c.if-can_feed.false in
    ended_there g.N.Machine g.N.Nodes m hubs feeds subs c.args.hub c.args.state.now f c.next_out.result placed (c.in_default.ensures.none m) off (c.next_out.ensures m)
    (λ e. let other : Some (Failure c.in-Some-Failure.field-0-0) ≡ Some Item = sym (c.in-Some-Failure.is ∙ ap Some c.in-Some-Failure.field-0-is) ∙ e in cc)

pub returns-in-None : goal.returns-in-None
returns-in-None g c = λ m hubs there.
    let f = c.index-feeds-at.result in
    let feeds = c.args.feeds.now in
    let subs = c.args.subscriptions.now in
    let here = slice_get_read feeds (length feeds) c.args.at f refl c.requires.within c.index-feeds-at.is in
    let placed = placed_feed feeds c.args.hub.0 c.args.at f c.requires.place here in
    let off = feeds_there g.N.Machine m c.args.at c.args.state.now f feeds feeds subs subs false c.can_feed.result here refl refl (c.can_feed.ensures m) c.if-can_feed.false in
    ended_there g.N.Machine g.N.Nodes m hubs feeds subs c.args.hub c.args.state.now f c.next_out.result placed (c.in_default.ensures.none m) off (c.next_out.ensures m)
    (λ e. let other : None ≡ Some Item = sym c.in-None.is ∙ e in cc)
