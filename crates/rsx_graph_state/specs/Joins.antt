-- The joins of all leaves that read a hub, which are kept beside the subscriptions and beside the feeds.
use Rattle.std.specs.Prelude.{◌≡◌, ⊤, ℕ, List, map, Some, slice_get}
use Rattle.rsx_graph_state.specs.History.{History, HubPast, Source, emitted, fed}
use Rattle.rsx_graph_state.specs.Stands.{place_of}
use Rattle.rsx_graph_state.specs.declared.feed.Feed.{Feed}

-- these stand at the place of the feed of the hub with this number
abbrev pub AreFeedJoins : {M : Type 0} → List (Feed M) → List (List ℕ) → ℕ → List ℕ → Type 0
AreFeedJoins feeds kept i js = (at : ℕ) × (place_of feeds i ≡ Some at) × (slice_get kept at ≡ Some js)

-- where the hub with this number is fed by an expression, the joins of that expression's leaves do
abbrev pub HasFeedJoins : {M T : Type 0} → List (Feed M) → List (List ℕ) → ℕ → Source T → Type 0
HasFeedJoins feeds kept i (emitted w) = ⊤
HasFeedJoins feeds kept i (fed e js) = AreFeedJoins feeds kept i js

-- the joins that are kept are those of a history
pub record JoinsStand {M T : Type 0} (feeds : List (Feed M)) (sub_joins feed_joins : List (List ℕ)) (h : History T) : Type 0 where
  pub subs : sub_joins ≡ map (λ p. p.joins) h.pasts
  pub fed : (i : ℕ) (p : HubPast T) → slice_get h.hubs i ≡ Some p → HasFeedJoins feeds feed_joins i p.source
