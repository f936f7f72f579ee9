use Rattle.std.proofs.Common.{◌≡◌, ◌+◌, ◌≤◌, min, drop}
use Rattle.rsx_graph_state.specs.Publishing.{feed_readers}
use Rattle.rsx_graph_state.proofs.publishing.feed_readers_up_to.Given as goal

abbrev pub invariant-loop-feed : goal.invariant-loop-feed
invariant-loop-feed g l = record {
  within : l.found ≤ l.most;
  rest : min (l.found + feed_readers g.N.Machine l.number (drop l.feed-index l.feeds)) l.most ≡ min (feed_readers g.N.Machine l.number l.feeds) l.most;
}
