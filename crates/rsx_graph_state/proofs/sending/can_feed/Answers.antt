use Rattle.rsx_graph_state.proofs.Skipping.{none_skipped}
use Rattle.std.proofs.Common.{sym}
use Rattle.rsx_graph_state.proofs.sending.can_feed.Goals as goal

pub sent_readers-requires-clause-unread : goal.sent_readers-requires-clause-unread
sent_readers-requires-clause-unread g c = λ f there. none_skipped g.N.Machine f.hub c.none.result c.args.subscriptions.now c.none.ensures

pub returns-in-Some : goal.returns-in-Some
returns-in-Some g c = λ m. sym (c.in-Some.ensures.enabled m)

pub returns-in-None : goal.returns-in-None
returns-in-None g c = λ m. sym (c.in-None.ensures.none m)
