-- The regions of all trees, which are kept beside the subscriptions and beside the feeds.
use Rattle.std.specs.Prelude.{◌≡◌, ⊤, ℕ, List, [], ◌∷◌, ◌++◌, map, Some, slice_get}
use Rattle.rsx_graph_state.specs.History.{History, HubPast, Source, emitted, fed}
use Rattle.rsx_graph_state.specs.Joins.{AreFeedJoins}
use Rattle.rsx_graph_state.specs.declared.feed.Feed.{Feed}
use Rattle.rsx_subscriber.specs.Prelude.{Expr, region_of, Past}
use Rattle.rsx_graph_calls.specs.Senders.{senders_below, senders_into}
use Rattle.rsx_graph_calls.specs.declared.regions.Regions.{Regions}

-- the regions that are kept, as lists
pub record RegionLists : Type 0 where
  -- of each subscription that of its root
  pub roots : List ℕ
  -- and those of the senders of the edges below its root that cross, in pre-order
  pub senders : List (List ℕ)
  -- of each feed those of the senders of its edges that cross, in pre-order; its root's own edge leads into region 0, as hubs are there
  pub feed_senders : List (List ℕ)

abbrev pub regions_of : Regions → RegionLists
regions_of r = record { roots = r.roots.items; senders = map (λ v. v.items) r.senders.items; feed_senders = map (λ v. v.items) r.feed_senders.items }

abbrev pub no_regions : RegionLists
no_regions = record { roots = []; senders = []; feed_senders = [] }

-- with those of a subscription more, to this expression
abbrev pub with_regions : {T : Type 0} → Expr T → RegionLists → RegionLists
with_regions e r = record { roots = r.roots ++ region_of e ∷ []; senders = r.senders ++ senders_below e ∷ []; feed_senders = r.feed_senders }

-- with those of a feed more, of this expression
abbrev pub with_fed_regions : {T : Type 0} → Expr T → RegionLists → RegionLists
with_fed_regions e r = record { roots = r.roots; senders = r.senders; feed_senders = r.feed_senders ++ senders_into 0 e ∷ [] }

-- ---- what has happened

-- the region of the expression that a subscriber subscribed to
abbrev pub region_in : {T : Type 0} → Past T → ℕ
region_in p = region_of p.expression

-- those of the senders of its edges below the root that cross
abbrev pub senders_in : {T : Type 0} → Past T → List ℕ
senders_in p = senders_below p.expression

-- where the hub with this number is fed by an expression, this of the expression and its joins stands at the place of the feed
abbrev pub IsKept : {M T : Type 0} → (Expr T → List ℕ → List ℕ) → List (Feed M) → List (List ℕ) → ℕ → Source T → Type 0
IsKept of feeds kept i (emitted w) = ⊤
IsKept of feeds kept i (fed e js) = AreFeedJoins feeds kept i (of e js)

-- so it is of each hub
abbrev pub AllKept : {M T : Type 0} → (Expr T → List ℕ → List ℕ) → List (Feed M) → List (List ℕ) → History T → Type 0
AllKept {M} {T} of feeds kept h = (i : ℕ) (p : HubPast T) → slice_get h.hubs i ≡ Some p → IsKept of feeds kept i p.source

-- the regions that are kept are those of a history
pub record RegionsStand {M T : Type 0} (feeds : List (Feed M)) (r : RegionLists) (h : History T) : Type 0 where
  pub roots : r.roots ≡ map region_in h.pasts
  pub senders : r.senders ≡ map senders_in h.pasts
  pub fed : AllKept (λ e js. senders_into 0 e) feeds r.feed_senders h

-- the subscription with this number is in this region
abbrev pub HasRegion : {T : Type 0} → List (Past T) → ℕ → ℕ → Type 0
HasRegion {T} pasts i r = (p : Past T) × (slice_get pasts i ≡ Some p) × (r ≡ region_in p)
