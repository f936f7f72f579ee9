use Rattle.std.proofs.Common.{◌≡◌, ◌<◌, ℕ, Some, slice_get}
use Rattle.rsx_graph_state.specs.declared.feed.Feed.{Feed}
use Rattle.rsx_serialized.proofs.emitter_links.is_fed.Given as goal

abbrev pub invariant-loop-feed : goal.invariant-loop-feed
invariant-loop-feed g l = (k : ℕ) (f : Feed g.row.N.Denot) → k < l.feed-index → slice_get l.feeds k ≡ Some f → f.hub ≡ l.hub → ⊥
