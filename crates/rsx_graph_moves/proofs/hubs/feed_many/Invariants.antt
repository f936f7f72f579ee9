use Rattle.std.proofs.Common.{◌≡◌, ◌-◌, ◌<◌, ◌≤◌, [], Some, length}
use Rattle.rsx_tree.specs.Runs.{LeadsBy}
use Rattle.rsx_graph_state.specs.Moves.{rows_of}
use Rattle.rsx_graph_state.specs.Stands.{place_of}
use Rattle.rsx_graph_state.specs.SubscriptionSet.{NoneReads}
use Rattle.rsx_graph_moves.specs.Pumped.{IsHubMovedOn, IsHubQuiet}
use Rattle.rsx_graph_moves.proofs.hubs.feed_many.Given as goal

abbrev pub invariant-rounds : goal.invariant-rounds
invariant-rounds g l = record {
  hubs : length l.hubs.items ≡ length l.fn.hubs.items;
  feeds : length l.feeds.items ≡ length l.fn.feeds.items;
  subscriptions : length l.subscriptions.items ≡ length l.fn.subscriptions.items;
  moves : LeadsBy (IsHubMovedOn g.N.Machine g.N.Nodes (g.O.Ops.meaning l.ops) l.fn.hub.0) l.made (rows_of l.fn.hubs.items l.fn.feeds.items l.fn.subscriptions.items) (rows_of l.hubs.items l.feeds.items l.subscriptions.items);
  awake : 0 < l.made → IsHubQuiet g.N.Machine (g.O.Ops.meaning l.ops) (rows_of l.fn.hubs.items l.fn.feeds.items l.fn.subscriptions.items) l.fn.hub.0 → ⊥;
  most : l.made ≤ l.budget;
  place : place_of l.feeds.items l.fn.hub.0 ≡ Some l.at;
  unread : NoneReads g.N.Machine l.fn.hub.0 l.skipped l.subscriptions.items;
  empty : l.signals.items ≡ [];
}

abbrev pub decreases-rounds : goal.decreases-rounds
decreases-rounds g l = l.budget - l.made
