-- A tree: what `rsx_tree` says of it, and its moves where its root has the number 0 and an edge.
use Rattle.std.specs.Prelude.{◌&&◌, ℕ, Bool, true, false, List, Option, Some, None, option_map}
use Rattle.rsx_sources.specs.Prelude.{Meaning, Allocates, front_of}
use Rattle.rsx_sources.specs.declared.machine.Front.{Front}
use Rattle.rsx_sources.specs.declared.machine.Machine.{Ghosts as Machine}
pub use Rattle.rsx_tree.specs.Allocates.{IsAlike, tree_allocates}
pub use Rattle.rsx_tree.specs.Balance.{IsBalanced, IsBalancedAfter, IsWithin}
pub use Rattle.rsx_tree.specs.Chosen.{IsChosen, IsPickedAt, IsRowAt}
pub use Rattle.rsx_tree.specs.Driven.{IsIdle}
use Rattle.rsx_tree.specs.Driven as Runs
use Rattle.rsx_tree.specs.Prelude.{EdgeView, can_pass, closed_if, Place, wanted_at, is_own, sent_edges, can_pick_in, can_row_in, station_of, place_of}
pub use Rattle.rsx_tree.specs.Stepped.{IsAfterPickAt, IsStill, step_allocates}
pub use Rattle.rsx_tree.specs.Tree.{comes_out, notes, offers, edges, can_ask, can_send, send_allocates, ended_at, with_edge, IsAllClosed, IsKept, IsLetGo, IsAskedAt, IsReceivedAt, IsSentAt}
use Rattle.rsx_tree.specs.declared.node.Node.{Node}

-- a signal that is offered can go over this edge
abbrev pub can_go : EdgeView → Option Front → Bool
can_go e None = false
can_go e (Some f) = can_pass e f

-- a pick of the node `at`, and a row of it, are enabled, where the root has the number 0 and this edge
abbrev pub can_pick : {M T : Type 0} → Machine M T → Node M → EdgeView → ℕ → ℕ → Bool
can_pick b t root at input = can_pick_in b input (station_of t root at)

abbrev pub can_row : {M T : Type 0} → Machine M T → Node M → EdgeView → ℕ → Bool
can_row b t root at = can_row_in b (station_of t root at)

-- whether taking out what the root offers may allocate
abbrev pub pop_allocates : {M T : Type 0} → Machine M T → Allocates → Node M → Bool
pop_allocates b a t = b.pop_allocates a t.machine

-- what the receiver of the edge `at` wants, where there is one
abbrev pub want_in : {M T : Type 0} → Machine M T → Option (Place M) → ℕ
want_in b None = 0
want_in b (Some p) = wanted_at b p

abbrev pub want_at : {M T : Type 0} → Machine M T → Node M → ℕ → ℕ → ℕ → ℕ
want_at b t at asked sent = want_in b (place_of t at asked sent)

-- which signal is offered over the edge `at`
abbrev pub front_in : {M T : Type 0} → Machine M T → Meaning T → Option (Place M) → Option Front
front_in b m None = None
front_in b m (Some p) = option_map front_of (b.waiting m p.sender)

abbrev pub front_at : {M T : Type 0} → Machine M T → Meaning T → Node M → ℕ → Option Front
front_at b m t at = front_in b m (place_of t at 0 0)

-- the edges after a signal went over the edge `at`; where its receiver ended by it, all edges below that are closed
abbrev pub edges_after : {M : Type 0} → Bool → Front → Node M → ℕ → List EdgeView
edges_after ended f t at = closed_if (ended && is_own t.inputs at) (sent_edges ended f t.inputs at)

-- ---- moves, and runs of them

abbrev pub IsAdvanced : {M T : Type 0} → Machine M T → Meaning T → Node M → ℕ → ℕ → Node M → Type 0
IsAdvanced b m old asked sent new = Runs.IsAdvanced b m true old asked sent new

abbrev pub IsDriven : {M T : Type 0} → Machine M T → Meaning T → ℕ → Node M → ℕ → ℕ → Node M → Type 0
IsDriven b m n old asked sent new = Runs.IsDriven b m true n old asked sent new
