use Rattle.std.proofs.Common.{◌≡◌, ◌+◌, ℕ, [], length}
use Rattle.rsx_graph_state.specs.Moves.{rows_of}
use Rattle.rsx_graph_moves.specs.Pumped.{AreHubsQuiet}
use Rattle.rsx_graph_moves.specs.Resting.{AreIdle}
use Rattle.rsx_graph_moves.proofs.Driving.{SoFar}
use Rattle.rsx_graph_moves.proofs.hubs.serve_all.Given as goal

abbrev pub invariant-loop-at : goal.invariant-loop-at
invariant-loop-at g l = record {
  hubs : length l.hubs.items ≡ length l.fn.hubs.items;
  feeds : length l.feeds.items ≡ length l.fn.feeds.items;
  subscriptions : length l.subscriptions.items ≡ length l.fn.subscriptions.items;
  so_far : (n : ℕ) × (n + l.left ≡ l.fn.budget) × SoFar g.N.Machine g.N.Nodes (g.O.Ops.meaning l.ops) (rows_of l.fn.hubs.items l.fn.feeds.items l.fn.subscriptions.items) [] n (rows_of l.hubs.items l.feeds.items l.subscriptions.items) [];
  none : l.left ≡ l.fn.budget → AreHubsQuiet g.N.Machine (g.O.Ops.meaning l.ops) (rows_of l.hubs.items l.feeds.items l.subscriptions.items) l.at;
  still : AreHubsQuiet g.N.Machine (g.O.Ops.meaning l.ops) (rows_of l.fn.hubs.items l.fn.feeds.items l.fn.subscriptions.items) (length l.fn.hubs.items) → rows_of l.hubs.items l.feeds.items l.subscriptions.items ≡ rows_of l.fn.hubs.items l.fn.feeds.items l.fn.subscriptions.items;
  idle : AreIdle g.N.Machine (g.O.Ops.meaning l.ops) l.idle l.subscriptions.items;
  empty : l.signals.items ≡ [];
}
