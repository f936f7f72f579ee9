use Rattle.rsx_graph_state.proofs.Skipping.{none_skipped}
use Rattle.rsx_graph_state.proofs.accepting.accept_once.Goals as goal

pub accept_unfed-requires-clause-unread : goal.accept_unfed-requires-clause-unread
accept_unfed-requires-clause-unread g c = λ _ _. none_skipped g.N.Machine c.args.hub.0 c.none.result c.args.subscriptions.now.items c.none.ensures
