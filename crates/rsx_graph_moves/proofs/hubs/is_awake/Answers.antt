use Rattle.std.proofs.Common.{◌∙◌, ap, arith, length, sym}
use Rattle.rsx_graph_state.specs.Moves.{rows_of}
use Rattle.rsx_graph_state.proofs.Calls.{accepts_there}
use Rattle.rsx_graph_state.proofs.Graphs.{found}
use Rattle.rsx_graph_state.proofs.Places.{feed_placed, placed_feed, unfed_there}
use Rattle.rsx_sources.specs.Prelude.{Accept}
use Rattle.rsx_subscriber.specs.Prelude.{Send}
use Rattle.rsx_graph_moves.specs.Moves.{name_in}
use Rattle.rsx_graph_moves.proofs.Named.{accepts_answered, fed_quiet, feeds_there, inside_of_feed, name_enabled, out_of_feed, unfed_quiet}
use Rattle.rsx_graph_moves.proofs.hubs.is_awake.Goals as goal

-- ---- a hub with an emitter

pub returns-in_default-clause-yes : goal.returns-in_default-clause-yes
returns-in_default-clause-yes g c = λ m e.
    let n = c.args.hub.0 in
    let x = c.index-state.result.now in
    let there = found c.args.hubs.now.items n x c.requires.there (sym c.index-state.ensures) in
    let unfed = unfed_there c.args.feeds.now.items n (c.requires.place ∙ c.in_default.is) in (
      Accept c.args.hub,
      accepts_there g.N.Machine n c.args.hubs.now.items x c.args.feeds.now.items c.deref.result.now c.args.subscriptions.now.items c.deref-in_default.result.now _ there c.deref.ensures.value c.deref-in_default.ensures.value unfed
          (accepts_answered g.N.Machine n c.from.result x c.deref.result.now c.deref-in_default.result.now _ c.can_accept.result c.from.ensures c.can_accept.ensures e),
    )

pub returns-in_default-clause-no : goal.returns-in_default-clause-no
returns-in_default-clause-no g c = λ m e.
    let n = c.args.hub.0 in
    let x = c.index-state.result.now in
    let there = found c.args.hubs.now.items n x c.requires.there (sym c.index-state.ensures) in
    let unfed = unfed_there c.args.feeds.now.items n (c.requires.place ∙ c.in_default.is) in
    unfed_quiet g.N.Machine m (rows_of c.args.hubs.now.items c.args.feeds.now.items c.args.subscriptions.now.items) n unfed
    (accepts_there g.N.Machine n c.args.hubs.now.items x c.args.feeds.now.items c.deref.result.now c.args.subscriptions.now.items c.deref-in_default.result.now _ there c.deref.ensures.value c.deref-in_default.ensures.value unfed
    (accepts_answered g.N.Machine n c.from.result x c.deref.result.now c.deref-in_default.result.now _ c.can_accept.result c.from.ensures c.can_accept.ensures e))

-- ---- a hub with a feed

pub index-requires : goal.index-requires
index-requires g c =
    let within = (feed_placed c.args.feeds.now.items c.args.hub.0 c.in-Some.at (c.requires.place ∙ c.in-Some.is)).within in
    let all = c.args.feeds.now.ok.0 in
    omega (arith, within, all)

pub can_feed-requires : goal.can_feed-requires
can_feed-requires g c = let l = ap length c.deref-in-None.ensures.value in let k = (feed_placed c.args.feeds.now.items c.args.hub.0 c.in-Some.at (c.requires.place ∙ c.in-Some.is)).within in omega (arith, l, k)

pub returns-in-Some-first_work-clause-yes : goal.returns-in-Some-first_work-clause-yes
returns-in-Some-first_work-clause-yes g c = λ m _.
    let n = c.args.hub.0 in
    let feeds = c.args.feeds.now.items in
    let rows = rows_of c.args.hubs.now.items c.args.feeds.now.items c.args.subscriptions.now.items in
    let place = c.requires.place ∙ c.in-Some.is in
    let f = c.index.result.now in
    let here = found feeds c.in-Some.at f (feed_placed feeds n c.in-Some.at place).within (sym c.index.ensures) in
    let placed = placed_feed feeds n c.in-Some.at f place here in
    let step = c.in-Some-first_work.field-0 in
    (name_in g.N.Nodes f c.args.hub step, name_enabled g.N.Machine g.N.Nodes m rows c.args.hub f step placed ∙ inside_of_feed g.N.Machine m rows n f step c.requires.there placed (c.in-Some-first_work.ensures.some m).1)

pub returns-in-None-clause-yes : goal.returns-in-None-clause-yes
returns-in-None-clause-yes g c = λ m e.
    let n = c.args.hub.0 in
    let feeds = c.args.feeds.now.items in
    let rows = rows_of c.args.hubs.now.items c.args.feeds.now.items c.args.subscriptions.now.items in
    let place = c.requires.place ∙ c.in-Some.is in
    let x = c.index-state.result.now in
    let there = found c.args.hubs.now.items n x c.requires.there (sym c.index-state.ensures) in
    let f = c.index.result.now in
    let here = found feeds c.in-Some.at f (feed_placed feeds n c.in-Some.at place).within (sym c.index.ensures) in
    let placed = placed_feed feeds n c.in-Some.at f place here in (
      name_in g.N.Nodes f c.args.hub (Send 0),
      name_enabled g.N.Machine g.N.Nodes m rows c.args.hub f (Send 0) placed
          ∙ out_of_feed g.N.Machine m rows n x f there placed (feeds_there g.N.Machine m c.in-Some.at x f feeds c.deref-in-None.result.now c.args.subscriptions.now.items c.deref-in-None-2.result.now _ c.can_feed.result here c.deref-in-None.ensures.value c.deref-in-None-2.ensures.value (c.can_feed.ensures m) e),
    )

pub returns-in-None-clause-no : goal.returns-in-None-clause-no
returns-in-None-clause-no g c = λ m e.
    let n = c.args.hub.0 in
    let feeds = c.args.feeds.now.items in
    let rows = rows_of c.args.hubs.now.items c.args.feeds.now.items c.args.subscriptions.now.items in
    let place = c.requires.place ∙ c.in-Some.is in
    let x = c.index-state.result.now in
    let there = found c.args.hubs.now.items n x c.requires.there (sym c.index-state.ensures) in
    let f = c.index.result.now in
    let here = found feeds c.in-Some.at f (feed_placed feeds n c.in-Some.at place).within (sym c.index.ensures) in
    let placed = placed_feed feeds n c.in-Some.at f place here in
    fed_quiet g.N.Machine m rows n x f there placed (c.in-None.ensures.none m)
    (feeds_there g.N.Machine m c.in-Some.at x f feeds c.deref-in-None.result.now c.args.subscriptions.now.items c.deref-in-None-2.result.now _ c.can_feed.result here c.deref-in-None.ensures.value c.deref-in-None-2.ensures.value (c.can_feed.ensures m) e)
