use Rattle.std.proofs.Common.{◌≡◌, length}
use Rattle.rsx_graph_state.specs.Moves.{rows_of}
use Rattle.rsx_graph_moves.specs.Many.{IsMadeTimes}
use Rattle.rsx_graph_moves.proofs.many.make_many.Given as goal

abbrev pub invariant-loop-made : goal.invariant-loop-made
invariant-loop-made g l = record {
  hubs : length l.hubs.items ≡ length l.fn.hubs.items;
  feeds : length l.feeds.items ≡ length l.fn.feeds.items;
  subscriptions : length l.subscriptions.items ≡ length l.fn.subscriptions.items;
  made : IsMadeTimes g.N.Machine g.N.Nodes (g.O.Ops.meaning l.ops) l.fn.step l.made (rows_of l.fn.hubs.items l.fn.feeds.items l.fn.subscriptions.items) l.fn.out (rows_of l.hubs.items l.feeds.items l.subscriptions.items) l.out;
}
