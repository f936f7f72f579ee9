-- Graphs that are live.
use Rattle.std.specs.Prelude.{◌≡◌, ℕ, Bool, List}
use Rattle.rsx_types.specs.declared.ops.Ops.{Ghosts as Ops}
use Rattle.rsx_kinds.specs.Any.{TreeNode, any_machine}
use Rattle.rsx_kinds.specs.Cutting.{node_held, node_read_to, queue_of, with_ended_queue, with_queue}
use Rattle.rsx_rooted.specs.declared.nodes.CrossingNodes.{Ghosts as CrossingNodes}
use Rattle.rsx_runtime.specs.declared.tap.Tap.{Tap}
use Rattle.rsx_graph_state.specs.History.{History}
use Rattle.rsx_graph.specs.InGraph.{state_of}
use Rattle.rsx_graph.specs.Stands.{GraphStands}
use Rattle.rsx_graph.specs.declared.graph.Graph.{Graph}
use Rattle.rsx_subscriber.specs.declared.subscription.Subscription.{Subscription}
use Rattle.rsx_live_parts.specs.Kept.{WereStopped, all_lived}
use Rattle.rsx_live_parts.specs.Lives.{AreNotJoined, IsLiveFor}
use Rattle.rsx_live.specs.Workers.{HaveRegions}
use Rattle.rsx_live.specs.declared.graph.GraphRest.{GraphRest}
use Rattle.rsx_live.specs.declared.graph.LiveGraph.{LiveGraph}
use Rattle.rsx_live.specs.declared.graph.NotStarted.{NotStarted}
use Rattle.rsx_live.specs.declared.graph.NotStarted.TheVariants.{NoMemory, NotJoined, TooFewWorkers}
use Rattle.rsx_live_parts.specs.declared.kept.Kept.{Kept}

-- how nodes of all kinds cross
abbrev pub any_crossing : {T : Type 0} → CrossingNodes (TreeNode T) T
any_crossing = record { edge_queue = queue_of; queued = with_queue; ended_queue = with_ended_queue; held = node_held; read_to = node_read_to }

-- what has happened, with what the taps gave while the graph was live
abbrev pub lived_history : {M T : Type 0} → List (Kept M T) → List (Tap T) → List Bool → History T → History T
lived_history ks ts flags h = record { hubs = h.hubs; pasts = all_lived ks ts flags h.pasts }

module _ {O T : Type 0} {b : Ops O T} where
  -- the graph of these functions and subscriptions, and of what stayed
  pub record IsTogether (ops : O) (subs : List (Subscription (TreeNode T) T)) (rest : GraphRest O T b) (g : Graph O T b) : Type 0 where
    pub functions : g.ops ≡ ops
    pub subscriptions : g.subscriptions.items ≡ subs
    pub hubs : g.hubs ≡ rest.hubs
    pub feeds : g.feeds ≡ rest.feeds
    pub feed_joins : g.feed_joins ≡ rest.feed_joins
    pub joins : g.joins ≡ rest.joins
    pub regions : g.regions ≡ rest.regions

  -- that graph has gone live
  pub record IsLiveGraphOf (graph : Graph O T b) (live : LiveGraph O T b) : Type 0 where
    pub subs : IsLiveFor any_machine any_crossing b.meaning graph.subscriptions.items live.subs
    pub rest : IsTogether live.subs.live.ops graph.subscriptions.items live.rest graph

  -- some graph has
  pub record IsLiveGraph (live : LiveGraph O T b) : Type 0 where
    pub graph : Graph O T b
    pub is : IsLiveGraphOf graph live

  -- The graph that comes back of it, and of its taps. It stands for all that the graph stood for that went live, with what the taps gave.
  -- `flags` says of each tap whether a flag of its link was set.
  pub record GraphBack (live : LiveGraph O T b) (ts : List (Tap T)) (g : Graph O T b) : Type 0 where
    pub flags : List Bool
    pub stopped : WereStopped ts flags
    pub functions : g.ops ≡ live.subs.live.ops
    pub stands : (graph : Graph O T b) → IsLiveGraphOf graph live → (h : History T) → GraphStands (b.meaning graph.ops) (state_of graph) h → GraphStands (b.meaning g.ops) (state_of g) (lived_history live.subs.kept.items ts flags h)

  -- no graph comes back, since some pieces can't be joined: so it is of each that went live so
  abbrev pub IsNotJoined : LiveGraph O T b → Type 0
  IsNotJoined live = (graph : Graph O T b) → IsLiveGraphOf graph live → AreNotJoined any_machine any_crossing (b.meaning live.subs.live.ops) graph.subscriptions.items live.subs.kept.items

  -- The graph comes back as it was, where there are too few workers; where a growth was refused it stands for what it stood for. But where
  -- a join was refused nothing comes back.
  abbrev pub ComesBack : ℕ → Graph O T b → NotStarted O T b → Type 0
  ComesBack workers graph (TooFewWorkers g) = (HaveRegions workers graph.regions → ⊥) × (g.ops ≡ graph.ops) × (state_of g ≡ state_of graph)
  ComesBack workers graph (NoMemory g) = HaveRegions workers graph.regions × (g.ops ≡ graph.ops) × ((h : History T) → GraphStands (b.meaning graph.ops) (state_of graph) h → GraphStands (b.meaning g.ops) (state_of g) h)
  ComesBack workers graph NotJoined = HaveRegions workers graph.regions × ((ks : List (Kept (TreeNode T) T)) × AreNotJoined any_machine any_crossing (b.meaning graph.ops) graph.subscriptions.items ks)
