-- The edits of a graph with feeds: what has happened by each, and why it is refused.
use Rattle.rsx_sources.specs.declared.machine.Machine.{Ghosts as Machine}
use Rattle.std.specs.Prelude.{◌≡◌, ⊤, ◌⊎◌, ℕ, ◌<◌, ◌≤◌, true, false, if◌then◌else◌, List, [], ◌∷◌, ◌++◌, length, map, Option, Some, None}
use Rattle.rsx_graph_state.specs.Prelude.{History, emitted, fed, HaveJoined, have_places, HubState, are_numbers, fresh_hub, join}
use Rattle.rsx_graph_state.specs.Feeds.{begun_edge}
use Rattle.rsx_graph_state.specs.declared.TheConstants.{MOST_HUBS}
use Rattle.rsx_graph_state.specs.declared.refusal.Refusal.{Refusal}
use Rattle.rsx_graph_state.specs.declared.refusal.Refusal.TheVariants.{TooMany, BadExpr, NoMemory}
use Rattle.rsx_subscriber.specs.Prelude.{refusal, BadExpr as BadExprKind, Number, Expr, leaf_joins, IsPlaced, differ, region_of}
use Rattle.rsx_pipe.specs.Built.{fresh_edges}
use Rattle.rsx_pipe.specs.Part.{all_edges}
use Rattle.rsx_graph_state.specs.declared.feed.Feed.{Feed}
use Rattle.rsx_sources.specs.Prelude.{ended_by, HubKind, Open}

-- ---- a new hub

-- a hub with an emitter was made: nothing was published there yet
abbrev pub with_hub : {T : Type 0} → HubKind → History T → History T
with_hub k h = record { hubs = h.hubs ++ record { kind = k; source = emitted (ended_by Open); count = 0 } ∷ []; pasts = h.pasts }

-- how many items the leaves of an expression miss that join the hubs now, from left to right
abbrev pub joins_in : {T : Type 0} → History T → Expr T → List ℕ
joins_in h e = leaf_joins (map (λ p. join p.kind p.count) h.hubs) e

-- a hub was made that is fed by an expression, whose leaves joined the hubs before it
abbrev pub with_fed_hub : {T : Type 0} → HubKind → Expr T → History T → History T
with_fed_hub k e h = record { hubs = h.hubs ++ record { kind = k; source = fed e (joins_in h e); count = 0 } ∷ []; pasts = h.pasts }

-- each feed names one of so many hubs
abbrev pub NameHubs : {M : Type 0} → ℕ → List (Feed M) → Type 0
NameHubs n [] = ⊤
NameHubs n (f ∷ fs) = (f.hub < n) × NameHubs n fs

-- what is wrong with a hub and its expression, over so many hubs: its own numbers first
abbrev pub fault_of : {T : Type 0} → HubKind → ℕ → ℕ → Expr T → Option BadExprKind
fault_of k c hubs e = if are_numbers k c then refusal hubs e else Some Number

-- why a hub with a feed is not made: a fault first, then the limits (of hubs, and of a hub's members), and memory last
abbrev pub IsFedHubRefusal : {T : Type 0} → HubKind → ℕ → Expr T → List (HubState T) → Refusal → Type 0
IsFedHubRefusal k c e hubs (BadExpr b) = fault_of k c (length hubs) e ≡ Some b
IsFedHubRefusal k c e hubs TooMany = (fault_of k c (length hubs) e ≡ None) × ((MOST_HUBS ≤ length hubs) ⊎ (have_places 0 e hubs ≡ false))
IsFedHubRefusal k c e hubs NoMemory = (fault_of k c (length hubs) e ≡ None) × (length hubs < MOST_HUBS) × (have_places 0 e hubs ≡ true)
IsFedHubRefusal k c e hubs r = ⊥

-- a hub with a feed stands behind the others, which the leaves of the feed joined, and the feed behind the other feeds
pub record IsFedHubMade {M T : Type 0} (mc : Machine M T) (k : HubKind) (c : ℕ) (e : Expr T) (hubs news : List (HubState T)) (feeds fed_by : List (Feed M)) : Type 0 where
  pub joined : List (HubState T)
  pub feed : Feed M
  pub members : HaveJoined e hubs joined
  pub behind : news ≡ joined ++ fresh_hub k c ∷ []
  -- the edges of the feed have a queue just where they join two regions; a hub is in region 0
  pub placed : IsPlaced mc.crosses e (differ 0 (region_of e)) feed.part.tree
  pub named : feed.hub ≡ length hubs
  -- as much as can be was asked over its root edge, over which nothing was sent; nothing was asked and nothing sent over the edges
  -- below, and what a node that has put out its ending closes is closed
  pub edges : all_edges feed.part ≡ begun_edge ∷ fresh_edges e
  pub added : fed_by ≡ feeds ++ feed ∷ []
