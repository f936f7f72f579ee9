use Rattle.std.proofs.Common.{◌-◌, length}
use Rattle.rsx_graph_state.proofs.AllAtOnce.{IsHandedOn}
use Rattle.rsx_graph_state.proofs.at_once.hand_all.Given as goal

abbrev pub invariant-walk : goal.invariant-walk
invariant-walk g l = IsHandedOn g.N.Machine g.N.Batches.spaces_of l.number l.count l.to l.fn.subscriptions l.subscriptions l.fn.items.items l.items.items

abbrev pub decreases-walk : goal.decreases-walk
decreases-walk g l = length l.initial.subscriptions - l.to
