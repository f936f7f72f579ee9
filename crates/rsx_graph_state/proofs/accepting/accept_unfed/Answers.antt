use Rattle.std.proofs.Common.{◌∙◌, Bool, ap, length, refl, subst, sym, true}
use Rattle.std.proofs.lemmas.List.{with_items_is}
use Rattle.rsx_graph_state.proofs.Graphs.{found, set_same}
use Rattle.rsx_graph_state.proofs.Publishes.{handed_length}
use Rattle.rsx_sources.specs.Steps.{IsNotMade}
use Rattle.rsx_graph_state.proofs.Calls.{accept_effect, accepts_there, lent_back, lent_same}
use Rattle.rsx_graph_state.proofs.Places.{feeds_length}
use Rattle.rsx_graph_state.proofs.accepting.accept_unfed.Goals as goal

pub returns-in-Ok-clause-feeds : goal.returns-in-Ok-clause-feeds
returns-in-Ok-clause-feeds g c = let k = c.in-Ok.ensures.ok in lent_back c.args.feeds.now c.deref_mut.result.now c.accept.new.feeds c.deref_mut.ensures.value c.deref_mut.ensures.len (feeds_length g.N.Machine c.args.hub.0 k.signal c.deref_mut.result.now c.accept.new.feeds k.fed)

pub returns-in-Ok-clause-subscriptions : goal.returns-in-Ok-clause-subscriptions
returns-in-Ok-clause-subscriptions g c = let k = c.in-Ok.ensures.ok in lent_back c.args.subscriptions.now c.deref_mut-2.result.now c.accept.new.subscriptions c.deref_mut-2.ensures.value c.deref_mut-2.ensures.len (handed_length g.N.Machine c.args.hub.0 k.signal c.deref_mut-2.result.now c.accept.new.subscriptions k.handed)

pub returns-in-Ok-clause-effect : goal.returns-in-Ok-clause-effect
returns-in-Ok-clause-effect g c =
    let i = c.args.hub.0 in
    let there = found c.args.hubs.now.items i c.index_mut.result.now c.requires.there (sym c.index_mut.ensures.value) in
    let k = c.in-Ok.ensures.ok in
    let many = feeds_length g.N.Machine i k.signal c.deref_mut.result.now c.accept.new.feeds k.fed ∙ c.deref_mut.ensures.len in
    let all = handed_length g.N.Machine i k.signal c.deref_mut-2.result.now c.accept.new.subscriptions k.handed ∙ c.deref_mut-2.ensures.len in
    rw (with_items_is c.args.feeds.now c.accept.new.feeds many)
    (rw (with_items_is c.args.subscriptions.now c.accept.new.subscriptions all)
    (accept_effect g.N.Machine i c.args.hubs.now.items c.index_mut.result.now c.accept.new.hub c.args.feeds.now.items c.deref_mut.result.now c.accept.new.feeds c.args.subscriptions.now.items c.deref_mut-2.result.now c.accept.new.subscriptions there c.deref_mut.ensures.value c.deref_mut-2.ensures.value c.requires.unfed k))

pub returns-in-Ok-clause-enabled : goal.returns-in-Ok-clause-enabled
returns-in-Ok-clause-enabled g c =
    let there = found c.args.hubs.now.items c.args.hub.0 c.index_mut.result.now c.requires.there (sym c.index_mut.ensures.value) in
    accepts_there g.N.Machine c.args.hub.0 c.args.hubs.now.items c.index_mut.result.now c.args.feeds.now.items c.deref_mut.result.now c.args.subscriptions.now.items c.deref_mut-2.result.now true there c.deref_mut.ensures.value c.deref_mut-2.ensures.value c.requires.unfed c.in-Ok.ensures.enabled

pub returns-in-Err-clause-err : goal.returns-in-Err-clause-err
returns-in-Err-clause-err g c =
    let there = found c.args.hubs.now.items c.args.hub.0 c.index_mut.result.now c.requires.there (sym c.index_mut.ensures.value) in
    let P : Bool → Type 0 = λ b. IsNotMade b c.in-Err.why in
    subst P (sym (accepts_there g.N.Machine c.args.hub.0 c.args.hubs.now.items c.index_mut.result.now c.args.feeds.now.items c.deref_mut.result.now c.args.subscriptions.now.items c.deref_mut-2.result.now _ there c.deref_mut.ensures.value c.deref_mut-2.ensures.value c.requires.unfed refl)) c.in-Err.ensures.err

pub returns-in-Err-clause-feeds : goal.returns-in-Err-clause-feeds
returns-in-Err-clause-feeds g c = ap length (lent_same c.args.feeds.now c.deref_mut.result.now c.accept.new.feeds c.deref_mut.ensures.value c.deref_mut.ensures.len c.in-Err.ensures.same.1)

pub returns-in-Err-clause-subscriptions : goal.returns-in-Err-clause-subscriptions
returns-in-Err-clause-subscriptions g c = ap length (lent_same c.args.subscriptions.now c.deref_mut-2.result.now c.accept.new.subscriptions c.deref_mut-2.ensures.value c.deref_mut-2.ensures.len c.in-Err.ensures.same.2)

pub returns-in-Err-clause-same : goal.returns-in-Err-clause-same
returns-in-Err-clause-same g c =
    let e = c.in-Err.ensures.same in (
      set_same c.args.hubs.now.items c.args.hub.0 c.index_mut.result.now c.accept.new.hub c.requires.there (sym c.index_mut.ensures.value) e.0,
      lent_same c.args.feeds.now c.deref_mut.result.now c.accept.new.feeds c.deref_mut.ensures.value c.deref_mut.ensures.len e.1,
      lent_same c.args.subscriptions.now c.deref_mut-2.result.now c.accept.new.subscriptions c.deref_mut-2.ensures.value c.deref_mut-2.ensures.len e.2,
    )
