use Rattle.std.proofs.Common.{sym}
use Rattle.rsx_graph_state.proofs.Skipping.{none_skipped}
use Rattle.rsx_graph_state.proofs.publishing.can_accept.Goals as goal

pub ready_readers-requires : goal.ready_readers-requires
ready_readers-requires g c = record { unread = none_skipped g.N.Machine c.args.number c.none.result c.args.subscriptions.now c.none.ensures }

pub returns-in-Some : goal.returns-in-Some
returns-in-Some g c = sym c.in-Some.ensures.enabled

pub returns-in-None : goal.returns-in-None
returns-in-None g c = sym c.in-None.ensures.none
