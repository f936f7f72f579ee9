use Rattle.rsx_graph_state.proofs.AllAtOnce.{IsFedOn}
use Rattle.rsx_graph_state.proofs.at_once.hand_all_feeds.Given as goal

abbrev pub invariant-loop-feed : goal.invariant-loop-feed
invariant-loop-feed g l = IsFedOn g.N.Machine g.N.Batches.spaces_of l.number l.count l.feed-index l.fn.feeds l.feeds l.fn.items.items l.items.items
