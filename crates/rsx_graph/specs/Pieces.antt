-- The pieces of a graph, which stand for what the graph stands for.
use Rattle.std.specs.Prelude.{◌≡◌, map}
use Rattle.rsx_graph_calls.specs.Regions.{regions_of}
use Rattle.rsx_graph_state.specs.Prelude.{History, rows_of}
use Rattle.rsx_types.specs.declared.ops.Ops.{Ghosts as Ops}
use Rattle.rsx_graph.specs.Stands.{GraphStands, GraphState}
use Rattle.rsx_graph.specs.declared.graph.Graph.{Graph}
use Rattle.rsx_graph.specs.declared.pieces.Pieces.{Pieces}

-- the hubs, feeds and subscriptions, their joins, and their regions, as those of a graph
abbrev pub pieces_of : {O T : Type 0} {b : Ops O T} → Pieces O T b → GraphState T
pieces_of pieces = record {
  rows = rows_of pieces.hubs.items pieces.feeds.items pieces.subs.items;
  joins = map (λ v. v.items) pieces.joins.items;
  feed_joins = map (λ v. v.items) pieces.feed_joins.items;
  regions = regions_of pieces.regions;
}

-- pieces stand for a history, as a graph does
abbrev pub PiecesStand : {O T : Type 0} {b : Ops O T} → Pieces O T b → History T → Type 0
PiecesStand {O} {T} {b} pieces h = GraphStands (b.meaning pieces.ops) (pieces_of pieces) h

-- of each history for which the pieces stand, this holds
abbrev pub IfPiecesStand : {O T : Type 0} {b : Ops O T} → Pieces O T b → (History T → Type 0) → Type 0
IfPiecesStand {O} {T} pieces P = (h : History T) → PiecesStand pieces h → P h

-- these are the pieces of that graph, each as the graph holds it
pub record ArePiecesOf {O T : Type 0} {b : Ops O T} (graph : Graph O T b) (pieces : Pieces O T b) : Type 0 where
  pub ops : pieces.ops ≡ graph.ops
  pub hubs : pieces.hubs ≡ graph.hubs
  pub feeds : pieces.feeds ≡ graph.feeds
  pub feed_joins : pieces.feed_joins ≡ graph.feed_joins
  pub subs : pieces.subs ≡ graph.subscriptions
  pub joins : pieces.joins ≡ graph.joins
  pub regions : pieces.regions ≡ graph.regions
