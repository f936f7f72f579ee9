use Rattle.std.proofs.Common.{◌∙◌, ap, sym}
use Rattle.rsx_graph_state.specs.Moves.{rows_of}
use Rattle.rsx_graph_moves.specs.Moves.{feed_move_enabled}
use Rattle.rsx_graph_moves.proofs.moves.make_of_feed.Goals as goal

pub returns-in-true-clause-err : goal.returns-in-true-clause-err
returns-in-true-clause-err g c =
    let m = g.O.Ops.meaning c.args.ops.now in
    let rows = rows_of c.args.hubs.now.items c.args.feeds.now.items c.args.subscriptions.now.items in
    (sym (c.is_fed.ensures c.args.subscriptions.now.items) ∙ c.in-true.is, ap (λ o. feed_move_enabled g.N.Machine m rows c.args.hub.0 o) (sym c.move_in_feed.ensures ∙ c.in-None.is))

pub returns-in-false-clause-err : goal.returns-in-false-clause-err
returns-in-false-clause-err g c = sym (c.is_fed.ensures c.args.subscriptions.now.items) ∙ c.in-false.is
