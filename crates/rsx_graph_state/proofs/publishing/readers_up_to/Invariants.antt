use Rattle.std.proofs.Common.{◌≡◌, ◌+◌, ◌≤◌, min, drop}
use Rattle.rsx_graph_state.specs.Publishing.{readers}
use Rattle.rsx_graph_state.proofs.publishing.readers_up_to.Given as goal

abbrev pub invariant-loop-subscription : goal.invariant-loop-subscription
invariant-loop-subscription g l = record {
  within : l.found ≤ l.most;
  rest : min (l.found + readers g.N.Machine l.number (drop l.subscription-index l.subscriptions)) l.most ≡ min (readers g.N.Machine l.number l.subscriptions) l.most;
}
