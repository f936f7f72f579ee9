-- What a graph stands for, and what of it an edit leaves as it was.
use Rattle.rsx_graph.specs.Kinds.{IsServed, Rows, StandsFor, Feed}
use Rattle.std.specs.Prelude.{◌≡◌, ℕ, List, [], ◌∷◌}
use Rattle.std.specs.Coded.{×_prop, Unit-prop, le_prop}
use Rattle.rsx_graph_calls.specs.Edits.{NameHubs}
use Rattle.rsx_graph_state.specs.Prelude.{JoinsStand, History}
use Rattle.rsx_graph_calls.specs.Regions.{RegionLists, RegionsStand, no_regions}
use Rattle.rsx_types.specs.Meaning.{Meaning}
use Rattle.rsx_graph.specs.Limits.{KeepsLimits}

-- its hubs, feeds and subscriptions in rows, the joins of the leaves of each subscription and of each feed, and the regions of the trees
-- of both, in the same order
pub record GraphState (T : Type 0) : Type 0 where
  pub rows : Rows T
  pub joins : List (List ℕ)
  pub feed_joins : List (List ℕ)
  pub regions : RegionLists

-- a graph that has just begun
abbrev pub nothing : {T : Type 0} → GraphState T
nothing = record { rows = record { hubs = []; feeds = []; subs = [] }; joins = []; feed_joins = []; regions = no_regions }

-- a graph stands for a history: its rows do, the joins and the regions that it keeps are those of the history, and it keeps its limits
pub record GraphStands {T : Type 0} (m : Meaning T) (g : GraphState T) (h : History T) : Type 0 where
  pub rows : StandsFor m g.rows h
  pub joined : JoinsStand g.rows.feeds g.joins g.feed_joins h
  pub placed : RegionsStand g.rows.feeds g.regions h
  pub limits : KeepsLimits g.rows.hubs g.rows.feeds

-- whatever history the graph stands for, by it each live subscriber was served
abbrev pub IsAllServed : {T : Type 0} → Meaning T → GraphState T → Type 0
IsAllServed {T} m g = (h : History T) → GraphStands m g h → IsServed m g.rows h

-- ---- what stays

-- all joins, and all regions
abbrev pub AreJoinsSame : {T : Type 0} → GraphState T → GraphState T → Type 0
AreJoinsSame old new = (new.joins ≡ old.joins) × (new.feed_joins ≡ old.feed_joins) × (new.regions ≡ old.regions)

-- the hubs and the feeds, with all joins and regions: only subscriptions change
abbrev pub IsAsideSame : {T : Type 0} → GraphState T → GraphState T → Type 0
IsAsideSame old new = (new.rows.hubs ≡ old.rows.hubs) × (new.rows.feeds ≡ old.rows.feeds) × (new.joins ≡ old.joins) × (new.feed_joins ≡ old.feed_joins) × (new.regions ≡ old.regions)

-- the feeds and the subscriptions, with all joins and regions: only hubs change
abbrev pub IsRestSame : {T : Type 0} → GraphState T → GraphState T → Type 0
IsRestSame old new = (new.rows.feeds ≡ old.rows.feeds) × (new.rows.subs ≡ old.rows.subs) × (new.joins ≡ old.joins) × (new.feed_joins ≡ old.feed_joins) × (new.regions ≡ old.regions)

-- ---- that each feed names a hub is a fact with one proof at most

pub NameHubs-prop : {T : Type 0} (n : ℕ) (feeds : List (Feed T)) → IsProp (NameHubs n feeds)
NameHubs-prop n [] = Unit-prop
NameHubs-prop n (f ∷ fs) = ×_prop le_prop (NameHubs-prop n fs)
