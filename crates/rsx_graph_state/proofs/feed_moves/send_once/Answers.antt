use Rattle.rsx_graph_state.proofs.Skipping.{none_skipped}
use Rattle.rsx_graph_state.proofs.feed_moves.send_once.Goals as goal

pub send_from_feed-requires-clause-unread : goal.send_from_feed-requires-clause-unread
send_from_feed-requires-clause-unread g c = λ _ _. none_skipped g.N.Machine c.args.hub.0 c.none.result c.args.subscriptions.now.items c.none.ensures
