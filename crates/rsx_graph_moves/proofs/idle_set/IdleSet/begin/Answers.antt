use Rattle.std.proofs.Common.{inl, inr, arith}
use Rattle.rsx_graph_moves.specs.IdleSet.{IsApart}
use Rattle.rsx_graph_moves.proofs.IdleSets.{found_set, idle_same}
use Rattle.rsx_graph_moves.proofs.idle_set.IdleSet.begin.Goals as goal

pub hubs-preserved : goal.hubs-preserved
unfolding IsApart
hubs-preserved c = record {
  idle = c.hubs.invariant.idle;
  apart = λ h i known. elim (found_set c.hubs.self.apart c.hubs.self.known h i c.clear.new.self known.2) [
    | inl here ↦ absurd (c.clear.ensures i here.1)
    | inr other ↦ let lt = known.0 in let ne = other.0 in c.hubs.invariant.apart h i (omega (arith, lt, ne), known.1, other.1)
  ];
}

pub returns-then-at-ge-MOST_HUBS-clause-idle : goal.returns-then-at-ge-MOST_HUBS-clause-idle
returns-then-at-ge-MOST_HUBS-clause-idle c = idle_same c.hubs.self c.args.self.now c.hubs.invariant.idle

pub returns-clause-idle : goal.returns-clause-idle
returns-clause-idle c = idle_same c.hubs.self c.args.self.now c.hubs.invariant.idle
