use Rattle.std.proofs.Common.{◌≡◌, ◌+◌, ◌-◌, ◌≤◌, length, min, drop}
use Rattle.rsx_graph_state.specs.Publishing as spec
use Rattle.rsx_graph_state.specs.Publishing.{readers}
use Rattle.rsx_graph_state.proofs.publishing.with_room.Given as goal

abbrev pub invariant-walk : goal.invariant-walk
invariant-walk g l = record {
  room : spec.have_room g.N.Machine l.number (drop l.at l.subscriptions) ≡ spec.have_room g.N.Machine l.number l.subscriptions;
  within : l.found ≤ l.most;
  rest : min (l.found + readers g.N.Machine l.number (drop l.at l.subscriptions)) l.most ≡ min (readers g.N.Machine l.number l.subscriptions) l.most;
}

abbrev pub decreases-walk : goal.decreases-walk
decreases-walk g l = length l.subscriptions - l.at
