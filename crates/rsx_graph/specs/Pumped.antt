-- What driving a graph until it is idle does.
use Rattle.rsx_graph.specs.Kinds.{HasEnded, LeadTo}
use Rattle.std.specs.Prelude.{◌≡◌, ℕ, List, ◌++◌, length, Result}
use Rattle.rsx_graph_moves.specs.Pumped.{Made, after_moves, delivered_by}
use Rattle.rsx_graph_state.specs.Prelude.{History, Delivered}
use Rattle.rsx_graph_state.specs.declared.refusal.Refusal.{Refusal}
use Rattle.rsx_graph_state.specs.declared.step.Pumped.{Pumped}
use Rattle.rsx_types.specs.Meaning.{Meaning}
use Rattle.rsx_graph.specs.Stands.{AreJoinsSame, GraphStands, GraphState}

-- enabled moves were made, as many as the budget allows
pub record HasPumped {T : Type 0} (m : Meaning T) (budget : ℕ) (old : GraphState T) (before : Delivered T) (result : Result Pumped Refusal) (new : GraphState T) (after : Delivered T) : Type 0 where
  pub moves : List (Made T)
  -- the answer fits their number and the budget
  pub ends : HasEnded m budget (length moves) new.rows result
  -- they were made one after the other, each of them enabled
  pub lead : LeadTo m old.rows moves new.rows
  pub same : AreJoinsSame old new
  -- the graph stands for what has happened by them
  pub stands : (h : History T) → GraphStands m old h → GraphStands m new (after_moves h moves)
  -- what they delivered was put behind what stood there
  pub output : after.signals ≡ before.signals ++ delivered_by moves
