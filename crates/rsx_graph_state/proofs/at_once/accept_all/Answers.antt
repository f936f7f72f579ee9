use Rattle.std.proofs.Common.{◌∙◌, sym}
use Rattle.std.proofs.lemmas.List.{with_items_is}
use Rattle.rsx_graph_state.proofs.Accepts.{all_accepts, fed_as_many, handed_as_many}
use Rattle.rsx_graph_state.proofs.Calls.{lent_back}
use Rattle.rsx_graph_state.proofs.Graphs.{found}
use Rattle.rsx_graph_state.proofs.at_once.accept_all.Goals as goal

pub returns-clause-feeds : goal.returns-clause-feeds
returns-clause-feeds g c =
    let k = c.take_in_all.ensures.made in
    lent_back c.args.feeds.now c.deref_mut.result.now c.take_in_all.new.feeds c.deref_mut.ensures.value c.deref_mut.ensures.len (fed_as_many g.N.Machine c.args.hub.0 k.items c.deref_mut.result.now c.take_in_all.new.feeds k.fed)

pub returns-clause-subscriptions : goal.returns-clause-subscriptions
returns-clause-subscriptions g c =
    let k = c.take_in_all.ensures.made in
    lent_back c.args.subscriptions.now c.deref_mut-2.result.now c.take_in_all.new.subscriptions c.deref_mut-2.ensures.value c.deref_mut-2.ensures.len (handed_as_many g.N.Machine c.args.hub.0 k.items c.deref_mut-2.result.now c.take_in_all.new.subscriptions k.handed)

pub returns-clause-made : goal.returns-clause-made
returns-clause-made g c =
    let there = found c.args.hubs.now.items c.args.hub.0 c.index_mut.result.now c.requires.there (sym c.index_mut.ensures.value) in
    let k = c.take_in_all.ensures.made in
    let all = handed_as_many g.N.Machine c.args.hub.0 k.items c.deref_mut-2.result.now c.take_in_all.new.subscriptions k.handed ∙ c.deref_mut-2.ensures.len in
    let feeds = fed_as_many g.N.Machine c.args.hub.0 k.items c.deref_mut.result.now c.take_in_all.new.feeds k.fed ∙ c.deref_mut.ensures.len in
    rw (with_items_is c.args.subscriptions.now c.take_in_all.new.subscriptions all)
    (rw (with_items_is c.args.feeds.now c.take_in_all.new.feeds feeds)
    (all_accepts g.N.Machine c.args.hub.0 c.take_in_all.result c.args.hubs.now.items c.index_mut.result.now c.take_in_all.new.hub c.args.feeds.now.items c.deref_mut.result.now c.take_in_all.new.feeds c.args.subscriptions.now.items c.deref_mut-2.result.now c.take_in_all.new.subscriptions there c.requires.unfed c.deref_mut.ensures.value c.deref_mut-2.ensures.value k))
