use Rattle.std.proofs.Common.{◌≡◌, ◌+◌, ℕ, [], false, length}
use Rattle.rsx_graph_state.specs.Prelude.{rows_of, signals_wait, pump_allocates}
use Rattle.rsx_graph_moves.specs.Moves.{drives_allocate}
use Rattle.rsx_graph_moves.specs.Resting.{AreIdle}
use Rattle.rsx_graph_moves.proofs.Driving.{SoFar}
use Rattle.rsx_graph_moves.proofs.rounds.pump.Given as goal

abbrev pub invariant-rounds : goal.invariant-rounds
invariant-rounds g l = record {
  hubs : length l.hubs.items ≡ length l.fn.hubs.items;
  feeds : length l.feeds.items ≡ length l.fn.feeds.items;
  subscriptions : length l.subscriptions.items ≡ length l.fn.subscriptions.items;
  so_far : (n : ℕ) × (n + l.left ≡ l.fn.budget) × SoFar g.N.Machine g.N.Nodes (g.O.Ops.meaning l.ops) (rows_of l.fn.hubs.items l.fn.feeds.items l.fn.subscriptions.items) l.fn.out.signals n (rows_of l.hubs.items l.feeds.items l.subscriptions.items) l.out.signals;
  free : drives_allocate g.N.Machine (g.O.Ops.allocates l.ops) (rows_of l.fn.hubs.items l.fn.feeds.items l.fn.subscriptions.items) ≡ false → l.fn.feeds.items ≡ [] → (pump_allocates g.N.Machine (g.O.Ops.allocates l.ops) l.subscriptions.items ≡ false) × (signals_wait l.hubs.items ≡ false) × (l.feeds.items ≡ []);
  idle : AreIdle g.N.Machine (g.O.Ops.meaning l.ops) l.idle l.subscriptions.items;
  empty : l.signals.items ≡ [];
}

abbrev pub decreases-rounds : goal.decreases-rounds
decreases-rounds g l = l.left
