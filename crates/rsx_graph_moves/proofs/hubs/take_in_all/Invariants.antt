use Rattle.std.proofs.Common.{◌≡◌, ◌<◌, ℕ, [], length}
use Rattle.rsx_graph_state.specs.Moves.{rows_of}
use Rattle.rsx_graph_state.specs.Stands.{place_of}
use Rattle.rsx_graph_state.specs.SubscriptionSet.{IsSkipped, NoneReads}
use Rattle.rsx_graph_moves.specs.IdleSet.{IsIn}
use Rattle.rsx_graph_moves.specs.Pumped.{IsHubQuiet}
use Rattle.rsx_graph_moves.specs.Resting.{AreIdle}
use Rattle.rsx_graph_moves.specs.declared.idle_set.IdleSet.{IdleSet}
use Rattle.rsx_graph_moves.proofs.Driving.{SoFar}
use Rattle.rsx_graph_moves.proofs.hubs.take_in_all.Given as goal

abbrev pub invariant-loop-made : goal.invariant-loop-made
invariant-loop-made g l = record {
  hubs : length l.hubs.items ≡ length l.fn.hubs.items;
  feeds : length l.feeds.items ≡ length l.fn.feeds.items;
  subscriptions : length l.subscriptions.items ≡ length l.fn.subscriptions.items;
  so_far : SoFar g.N.Machine g.N.Nodes (g.O.Ops.meaning l.ops) (rows_of l.fn.hubs.items l.fn.feeds.items l.fn.subscriptions.items) [] l.made (rows_of l.hubs.items l.feeds.items l.subscriptions.items) [];
  first : 0 < l.made → IsHubQuiet g.N.Machine (g.O.Ops.meaning l.ops) (rows_of l.fn.hubs.items l.fn.feeds.items l.fn.subscriptions.items) l.fn.hub.0 → ⊥;
  place : place_of l.feeds.items l.fn.hub.0 ≡ l.at;
  unread : NoneReads g.N.Machine l.fn.hub.0 l.skipped l.subscriptions.items;
  stay : (set : IdleSet) → ((i : ℕ) → IsIn set i → IsSkipped l.skipped i) → AreIdle g.N.Machine (g.O.Ops.meaning l.ops) set l.fn.subscriptions.items → AreIdle g.N.Machine (g.O.Ops.meaning l.ops) set l.subscriptions.items;
  empty : l.signals.items ≡ [];
}
