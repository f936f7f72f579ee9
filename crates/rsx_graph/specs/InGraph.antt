-- The words of contracts on a whole graph: those of its hubs, feeds and subscriptions, under what the functions that it holds mean.
use Rattle.rsx_graph.specs.Kinds.{IsMadeAlone, IsMoved, IsNextRefused, drives_allocate, is_enabled, may_allocate, sent}
use Rattle.std.specs.Prelude.{ℕ, Bool, List, map, Option, Result}
use Rattle.rsx_graph_moves.specs.Moves.{IsMakeRefusal}
use Rattle.rsx_graph_calls.specs.Regions.{regions_of}
use Rattle.rsx_graph_state.specs.Prelude.{History, rows_of, Delivered}
use Rattle.rsx_graph_state.specs.declared.refusal.Refusal.{Refusal}
use Rattle.rsx_graph_state.specs.declared.step.Answer.{Answer}
use Rattle.rsx_graph_state.specs.declared.step.Pumped.{Pumped}
use Rattle.rsx_sources.specs.Prelude.{Move, SubId, Signal}
use Rattle.rsx_types.specs.declared.ops.Ops.{Ghosts as Ops}
use Rattle.rsx_graph.specs.Done.{HasRun, IsDone, fed_by}
use Rattle.rsx_graph.specs.Many.{HasMadeTimes}
use Rattle.rsx_graph.specs.Pumped.{HasPumped}
use Rattle.rsx_graph.specs.Stands.{GraphStands, GraphState}
use Rattle.rsx_graph.specs.declared.graph.Graph.{Graph}
use Rattle.rsx_graph.specs.declared.step.Step.{Step}

-- ---- what a graph stands for

-- its hubs, feeds and subscriptions, their joins, and their regions
abbrev pub state_of : {O T : Type 0} {b : Ops O T} → Graph O T b → GraphState T
state_of graph = record {
  rows = rows_of graph.hubs.items graph.feeds.items graph.subscriptions.items;
  joins = map (λ v. v.items) graph.joins.items;
  feed_joins = map (λ v. v.items) graph.feed_joins.items;
  regions = regions_of graph.regions;
}

-- of each history for which the graph stands, this holds
abbrev pub IfStandsFor : {O T : Type 0} {b : Ops O T} → Graph O T b → (History T → Type 0) → Type 0
IfStandsFor {O} {T} {b} graph P = (h : History T) → GraphStands (b.meaning graph.ops) (state_of graph) h → P h

-- of each history for which the graph stood before, it stands now for that history with this change
abbrev pub StandsAfter : {O T : Type 0} {b : Ops O T} → (History T → History T) → Graph O T b → Graph O T b → Type 0
StandsAfter {O} {T} {b} change old new = IfStandsFor old (λ h. GraphStands (b.meaning old.ops) (state_of new) (change h))

-- ---- moves

-- whether a move is enabled
abbrev pub enabled_in : {O T : Type 0} {b : Ops O T} → Graph O T b → Move → Bool
enabled_in {O} {T} {b} graph mv = is_enabled (b.meaning graph.ops) (state_of graph).rows mv

-- whether it may allocate
abbrev pub allocates_in : {O T : Type 0} {b : Ops O T} → Graph O T b → Move → Bool
allocates_in {O} {T} {b} graph mv = may_allocate (b.allocates graph.ops) (state_of graph).rows mv

-- what goes out of a feed into its hub by it
abbrev pub sent_in : {O T : Type 0} {b : Ops O T} → Graph O T b → Move → Option (Signal T)
sent_in {O} {T} {b} graph mv = sent (b.meaning graph.ops) (state_of graph).rows mv

-- what the move changes, where it delivers this
abbrev pub IsMadeIn : {O T : Type 0} {b : Ops O T} → Move → Graph O T b → Graph O T b → Option (SubId × Signal T) → Type 0
IsMadeIn {O} {T} {b} mv old new o = IsMoved (b.meaning old.ops) mv (state_of old).rows (state_of new).rows o

-- what a call that makes just this move says besides: no step of a node was made besides, not even one that leaves no trace in what comes
-- out, as a row of a zip, or an item that goes over an edge that crosses
abbrev pub IsAloneIn : {O T : Type 0} {b : Ops O T} → Move → Graph O T b → Graph O T b → Type 0
IsAloneIn {O} {T} {b} mv old new = IsMadeAlone (b.meaning old.ops) mv (state_of old).rows (state_of new).rows

-- why the move is refused
abbrev pub IsRefusedIn : {O T : Type 0} {b : Ops O T} → Move → Graph O T b → Refusal → Type 0
IsRefusedIn mv graph r = IsMakeRefusal (state_of graph).rows (enabled_in graph mv) mv r

-- ---- one move, many times

-- it was made so many times, one after the other
abbrev pub HasMadeTimesIn : {O T : Type 0} {b : Ops O T} → Move → ℕ → Graph O T b → Delivered T → Graph O T b → Delivered T → Type 0
HasMadeTimesIn {O} {T} {b} mv count old before new after =
    HasMadeTimes (b.meaning old.ops) mv count (state_of old) before (state_of new) after

-- why the next one is not made
abbrev pub IsNextRefusedIn : {O T : Type 0} {b : Ops O T} → Move → Graph O T b → Delivered T → Refusal → Type 0
IsNextRefusedIn {O} {T} {b} mv graph out why = IsNextRefused (b.meaning graph.ops) (b.allocates graph.ops) mv (state_of graph).rows out why

-- ---- runs of moves

-- whether driving the subscriptions and the hubs with emitters may allocate: some move in a subscription's tree may, or a signal
-- waits in a hub's inbox
abbrev pub drives_allocate_in : {O T : Type 0} {b : Ops O T} → Graph O T b → Bool
drives_allocate_in {O} {T} {b} graph = drives_allocate (b.allocates graph.ops) (state_of graph).rows

-- what `pump` promises
abbrev pub HasPumpedIn : {O T : Type 0} {b : Ops O T} → ℕ → Graph O T b → Delivered T → Result Pumped Refusal → Graph O T b → Delivered T → Type 0
HasPumpedIn {O} {T} {b} budget old before result new after =
    HasPumped (b.meaning old.ops) budget (state_of old) before result (state_of new) after

-- ---- steps

-- what goes out of a feed into its hub by a step that gets this answer
abbrev pub fed_in : {O T : Type 0} {b : Ops O T} → Graph O T b → Step T → Answer T → Option (Signal T)
fed_in {O} {T} {b} graph step answer = fed_by (b.meaning graph.ops) (state_of graph) step answer

-- what a step did, by its answer
abbrev pub IsDoneIn : {O T : Type 0} {b : Ops O T} → Step T → Answer T → Graph O T b → Graph O T b → Type 0
IsDoneIn {O} {T} {b} step answer old new =
    IsDone (b.meaning old.ops) (b.allocates old.ops) (state_of old) step answer (state_of new)

-- what a list of steps did, by their answers
abbrev pub HasRunIn : {O T : Type 0} {b : Ops O T} → List (Step T) → List (Answer T) → Graph O T b → Graph O T b → Type 0
HasRunIn {O} {T} {b} steps answers old new =
    HasRun (b.meaning old.ops) (b.allocates old.ops) (state_of old) steps answers (state_of new)
