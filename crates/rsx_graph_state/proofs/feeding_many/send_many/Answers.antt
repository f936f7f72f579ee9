use Rattle.std.proofs.Common.{◌∙◌, List, subst, sym}
use Rattle.std.proofs.lemmas.List.{with_items_is}
use Rattle.rsx_graph_state.specs.AtOnce.{AreSent}
use Rattle.rsx_graph_state.proofs.Accepts.{handed_as_many}
use Rattle.rsx_graph_state.proofs.Graphs.{found}
use Rattle.rsx_graph_state.proofs.OneFeed.{unread_of_all}
use Rattle.rsx_graph_state.proofs.SentMany.{all_sent}
use Rattle.rsx_subscriber.specs.declared.subscription.Subscription.{Subscription}
use Rattle.rsx_graph_state.proofs.feeding_many.send_many.Goals as goal

pub returns-clause-made : goal.returns-clause-made
returns-clause-made g c =
    let m = g.O.Ops.meaning c.args.ops.now in
    let h = c.args.hub.0 in
    let hub = c.index_mut.result.now in
    let feed = c.index_mut-2.result.now in
    let lent = c.deref_mut.result.now in
    let news = c.send_batch.new.subscriptions in
    let there = found c.args.hubs.now.items h hub c.requires.there (sym c.index_mut.ensures.value) in
    let from = found c.args.feeds.now.items c.args.at feed c.requires.within (sym c.index_mut-2.ensures.value) in
    let none = unread_of_all g.N.Machine h c.from-number.result c.args.feeds.now.items c.deref.result.now c.from-number.ensures c.deref.ensures.value (c.is_read_by_feeds.ensures c.if-is_read_by_feeds.false) in
    let k = c.send_batch.ensures.sent in
    let all = handed_as_many g.N.Machine h k.items lent news k.handed ∙ c.deref_mut.ensures.len in
    let S : List (Subscription g.row.N.Denot g.row.O-Item.Denot) → _ = λ xs. AreSent g.N.Machine m h c.send_batch.result hub c.send_batch.new.hub feed c.send_batch.new.feed xs news in
    rw (with_items_is c.args.subscriptions.now news all)
    (all_sent g.N.Machine m h c.send_batch.result c.args.at c.args.hubs.now.items c.args.feeds.now.items hub c.send_batch.new.hub feed c.send_batch.new.feed c.args.subscriptions.now.items news there from c.requires.place none (subst S c.deref_mut.ensures.value k))
