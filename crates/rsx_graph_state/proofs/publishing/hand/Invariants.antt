use Rattle.std.proofs.Common.{◌-◌, length}
use Rattle.rsx_graph_state.proofs.Skipping.{AreHandedTo}
use Rattle.rsx_graph_state.proofs.publishing.hand.Given as goal

abbrev pub invariant-walk : goal.invariant-walk
invariant-walk g l = AreHandedTo g.N.Machine l.number l.to l.fn.subscriptions l.subscriptions l.fn.signals.items l.signals.items

abbrev pub decreases-walk : goal.decreases-walk
decreases-walk g l = length l.initial.subscriptions - l.to
