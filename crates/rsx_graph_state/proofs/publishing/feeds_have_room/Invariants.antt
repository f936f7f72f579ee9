use Rattle.std.proofs.Common.{◌≡◌, drop}
use Rattle.rsx_graph_state.specs.Publishing as spec
use Rattle.rsx_graph_state.proofs.publishing.feeds_have_room.Given as goal

abbrev pub invariant-loop-feed : goal.invariant-loop-feed
invariant-loop-feed g l = spec.feeds_have_room g.N.Machine l.number (drop l.feed-index l.feeds) ≡ spec.feeds_have_room g.N.Machine l.number l.feeds
