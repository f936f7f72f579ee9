use Rattle.std.proofs.Common.{◌≡◌, ◌-◌, length, drop}
use Rattle.rsx_graph_state.specs.AtOnce as spec
use Rattle.rsx_graph_state.proofs.at_once.spaces_of_all.Given as goal

abbrev pub invariant-walk : goal.invariant-walk
invariant-walk g l = spec.spaces_of_all g.N.Machine g.N.Batches.spaces_of l.number l.left (drop l.at l.subscriptions) ≡ spec.spaces_of_all g.N.Machine g.N.Batches.spaces_of l.number l.most l.subscriptions

abbrev pub decreases-walk : goal.decreases-walk
decreases-walk g l = length l.subscriptions - l.at
