use Rattle.std.proofs.Common.{◌≡◌, ◌+◌, ◌-◌, ℕ}
use Rattle.rsx_graph_moves.specs.IdleSet.{IsApart}
use Rattle.rsx_graph_moves.proofs.idle_set.IdleSet.begin.Given as goal

abbrev pub invariant-hubs : goal.invariant-hubs
invariant-hubs l = record {
  idle : l.self.idle ≡ l.fn.self.idle;
  apart : (h i : ℕ) → IsApart l.self h i → IsApart l.fn.self h i;
}

abbrev pub decreases-hubs : goal.decreases-hubs
decreases-hubs l = l.hub.0 + 1 - l.self.known
