use Rattle.std.proofs.Common.{◌∙◌, ◌<◌, ℕ, Bool, ap, length, refl, subst, sym, true}
use Rattle.std.proofs.lemmas.List.{with_items_is}
use Rattle.rsx_graph_state.proofs.Graphs.{found, set_same}
use Rattle.rsx_sources.specs.Steps.{IsNotMade}
use Rattle.rsx_graph_state.proofs.Calls.{fed_effect, fed_length, fed_subs_length, lent_back, lent_same, sends_there, unread_of}
use Rattle.rsx_graph_state.proofs.feed_moves.send_from_feed.Goals as goal

pub send_to_hub-requires-clause-within : goal.send_to_hub-requires-clause-within
send_to_hub-requires-clause-within g c κs within =
    let P : ℕ → Type 0 = λ n. c.args.at < n in
    subst P (sym (ap length c.deref_mut.ensures.value)) c.requires.within

pub send_to_hub-requires-clause-unread : goal.send_to_hub-requires-clause-unread
send_to_hub-requires-clause-unread g c κs within f there =
    unread_of g.N.Machine c.args.hub.0 c.args.at f c.args.skipped.now c.args.feeds.now.items c.deref_mut.result.now c.args.subscriptions.now.items c.deref_mut-2.result.now c.requires.place c.deref_mut.ensures.value c.deref_mut-2.ensures.value there c.requires.unread

pub returns-in-Ok-clause-feeds : goal.returns-in-Ok-clause-feeds
returns-in-Ok-clause-feeds g c = lent_back c.args.feeds.now c.deref_mut.result.now c.send_to_hub.new.feeds c.deref_mut.ensures.value c.deref_mut.ensures.len (fed_length g.N.Machine (g.O.Ops.meaning c.args.ops.now) c.args.at c.index_mut.result.now c.send_to_hub.new.hub c.deref_mut.result.now c.send_to_hub.new.feeds c.deref_mut-2.result.now c.send_to_hub.new.subscriptions c.in-Ok.ensures.ok)

pub returns-in-Ok-clause-subscriptions : goal.returns-in-Ok-clause-subscriptions
returns-in-Ok-clause-subscriptions g c = lent_back c.args.subscriptions.now c.deref_mut-2.result.now c.send_to_hub.new.subscriptions c.deref_mut-2.ensures.value c.deref_mut-2.ensures.len (fed_subs_length g.N.Machine (g.O.Ops.meaning c.args.ops.now) c.args.at c.index_mut.result.now c.send_to_hub.new.hub c.deref_mut.result.now c.send_to_hub.new.feeds c.deref_mut-2.result.now c.send_to_hub.new.subscriptions c.in-Ok.ensures.ok)

pub returns-in-Ok-clause-effect : goal.returns-in-Ok-clause-effect
returns-in-Ok-clause-effect g c =
    let m = g.O.Ops.meaning c.args.ops.now in
    let there = found c.args.hubs.now.items c.args.hub.0 c.index_mut.result.now c.requires.there (sym c.index_mut.ensures.value) in
    let many = fed_length g.N.Machine m c.args.at c.index_mut.result.now c.send_to_hub.new.hub c.deref_mut.result.now c.send_to_hub.new.feeds c.deref_mut-2.result.now c.send_to_hub.new.subscriptions c.in-Ok.ensures.ok ∙ c.deref_mut.ensures.len in
    let all = fed_subs_length g.N.Machine m c.args.at c.index_mut.result.now c.send_to_hub.new.hub c.deref_mut.result.now c.send_to_hub.new.feeds c.deref_mut-2.result.now c.send_to_hub.new.subscriptions c.in-Ok.ensures.ok ∙ c.deref_mut-2.ensures.len in
    rw (with_items_is c.args.feeds.now c.send_to_hub.new.feeds many)
    (rw (with_items_is c.args.subscriptions.now c.send_to_hub.new.subscriptions all)
    (fed_effect g.N.Machine m c.args.hub.0 c.args.at c.args.hubs.now.items c.index_mut.result.now c.send_to_hub.new.hub c.args.feeds.now.items c.deref_mut.result.now c.send_to_hub.new.feeds c.args.subscriptions.now.items c.deref_mut-2.result.now c.send_to_hub.new.subscriptions there c.deref_mut.ensures.value c.deref_mut-2.ensures.value c.requires.place c.in-Ok.ensures.ok))

pub returns-in-Ok-clause-enabled : goal.returns-in-Ok-clause-enabled
returns-in-Ok-clause-enabled g c =
    let there = found c.args.hubs.now.items c.args.hub.0 c.index_mut.result.now c.requires.there (sym c.index_mut.ensures.value) in
    sends_there g.N.Machine (g.O.Ops.meaning c.args.ops.now) c.args.hub.0 c.args.at c.args.hubs.now.items c.index_mut.result.now c.args.feeds.now.items c.deref_mut.result.now c.args.subscriptions.now.items c.deref_mut-2.result.now true there c.deref_mut.ensures.value c.deref_mut-2.ensures.value c.requires.place c.in-Ok.ensures.enabled

pub returns-in-Err-clause-err : goal.returns-in-Err-clause-err
returns-in-Err-clause-err g c =
    let there = found c.args.hubs.now.items c.args.hub.0 c.index_mut.result.now c.requires.there (sym c.index_mut.ensures.value) in
    let P : Bool → Type 0 = λ b. IsNotMade b c.in-Err.why in
    subst P (sym (sends_there g.N.Machine (g.O.Ops.meaning c.args.ops.now) c.args.hub.0 c.args.at c.args.hubs.now.items c.index_mut.result.now c.args.feeds.now.items c.deref_mut.result.now c.args.subscriptions.now.items c.deref_mut-2.result.now _ there c.deref_mut.ensures.value c.deref_mut-2.ensures.value c.requires.place refl)) c.in-Err.ensures.err

pub returns-in-Err-clause-feeds : goal.returns-in-Err-clause-feeds
returns-in-Err-clause-feeds g c = ap length (lent_same c.args.feeds.now c.deref_mut.result.now c.send_to_hub.new.feeds c.deref_mut.ensures.value c.deref_mut.ensures.len c.in-Err.ensures.same.1)

pub returns-in-Err-clause-subscriptions : goal.returns-in-Err-clause-subscriptions
returns-in-Err-clause-subscriptions g c = ap length (lent_same c.args.subscriptions.now c.deref_mut-2.result.now c.send_to_hub.new.subscriptions c.deref_mut-2.ensures.value c.deref_mut-2.ensures.len c.in-Err.ensures.same.2)

pub returns-in-Err-clause-same : goal.returns-in-Err-clause-same
returns-in-Err-clause-same g c =
    let e = c.in-Err.ensures.same in (
      set_same c.args.hubs.now.items c.args.hub.0 c.index_mut.result.now c.send_to_hub.new.hub c.requires.there (sym c.index_mut.ensures.value) e.0,
      lent_same c.args.feeds.now c.deref_mut.result.now c.send_to_hub.new.feeds c.deref_mut.ensures.value c.deref_mut.ensures.len e.1,
      lent_same c.args.subscriptions.now c.deref_mut-2.result.now c.send_to_hub.new.subscriptions c.deref_mut-2.ensures.value c.deref_mut-2.ensures.len e.2,
    )
