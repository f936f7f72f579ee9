-- One move of a graph, made many times in one call.
use Rattle.rsx_graph.specs.Kinds.{LeadTo}
use Rattle.std.specs.Prelude.{◌≡◌, ℕ, List, map, replicate, ◌++◌}
use Rattle.rsx_graph_moves.specs.Pumped.{Made, after_moves, delivered_by}
use Rattle.rsx_graph_state.specs.Prelude.{History, Delivered}
use Rattle.rsx_sources.specs.Prelude.{Move}
use Rattle.rsx_types.specs.Meaning.{Meaning}
use Rattle.rsx_graph.specs.Stands.{AreJoinsSame, GraphStands, GraphState}

-- it was made so many times
pub record HasMadeTimes {T : Type 0} (m : Meaning T) (mv : Move) (count : ℕ) (old : GraphState T) (before : Delivered T) (new : GraphState T) (after : Delivered T) : Type 0 where
  -- each time with what it delivered, and what went out of a feed into its hub
  pub moves : List (Made T)
  pub named : map (λ d. d.move) moves ≡ replicate count mv
  -- one after the other, each time enabled and with its effect
  pub lead : LeadTo m old.rows moves new.rows
  pub same : AreJoinsSame old new
  -- the graph stands for what has happened by that
  pub stands : (h : History T) → GraphStands m old h → GraphStands m new (after_moves h moves)
  -- what was delivered was put behind what stood there
  pub output : after.signals ≡ before.signals ++ delivered_by moves
