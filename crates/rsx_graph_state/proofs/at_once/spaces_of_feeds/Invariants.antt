use Rattle.std.proofs.Common.{◌≡◌, drop}
use Rattle.rsx_graph_state.specs.AtOnce as spec
use Rattle.rsx_graph_state.proofs.at_once.spaces_of_feeds.Given as goal

abbrev pub invariant-loop-feed : goal.invariant-loop-feed
invariant-loop-feed g l = spec.spaces_of_feeds g.N.Machine g.N.Batches.spaces_of l.number l.left (drop l.feed-index l.feeds) ≡ spec.spaces_of_feeds g.N.Machine g.N.Batches.spaces_of l.number l.most l.feeds
