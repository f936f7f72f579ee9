use Rattle.std.proofs.Common.{◌≡◌, drop}
use Rattle.rsx_graph_state.specs.Publishing.{have_room}
use Rattle.rsx_graph_moves.proofs.hub_waits.full_subscription.Given as goal

abbrev pub invariant-loop-at : goal.invariant-loop-at
invariant-loop-at g l = have_room g.N.Machine l.hub (drop l.at l.subscriptions) ≡ have_room g.N.Machine l.hub l.subscriptions
