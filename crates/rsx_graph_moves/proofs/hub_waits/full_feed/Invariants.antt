use Rattle.std.proofs.Common.{◌≡◌, drop}
use Rattle.rsx_graph_state.specs.Publishing.{feeds_have_room}
use Rattle.rsx_graph_moves.proofs.hub_waits.full_feed.Given as goal

abbrev pub invariant-loop-feed : goal.invariant-loop-feed
invariant-loop-feed g l = feeds_have_room g.N.Machine l.hub (drop l.feed-index l.feeds) ≡ feeds_have_room g.N.Machine l.hub l.feeds
