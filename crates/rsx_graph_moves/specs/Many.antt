-- One move of a graph, made many times in one call.
use Rattle.rsx_sources.specs.declared.machine.Machine.{Ghosts as Machine}
use Rattle.rsx_rooted.specs.declared.nodes.Nodes.{Ghosts as Nodes}
use Rattle.std.specs.Prelude.{◌≡◌, ℕ, min, true, false, nat_eq, if◌then◌else◌, List, map, replicate, ◌++◌, Option, Some, None, is_some}
use Rattle.rsx_pipe.specs.declared.many.TheConstants.{MOST_AT_ONCE}
use Rattle.rsx_sources.specs.Prelude.{Meaning, Allocates, Move, Ask, Send, Take, Pick, Row, Accept, SubId, Sub, Feed as FeedOf}
use Rattle.rsx_subscriber.specs.Delivered.{Delivered, IsFull}
use Rattle.rsx_graph_state.specs.Prelude.{Rows}
use Rattle.rsx_graph_state.specs.declared.refusal.Refusal.{Refusal}
use Rattle.rsx_graph_state.specs.declared.refusal.Refusal.TheVariants.{NoMemory}
use Rattle.rsx_graph_moves.specs.Moves.{IsMakeRefusal, is_enabled, may_allocate}
use Rattle.rsx_graph_moves.specs.Pumped.{AreMade, Made, delivered_by}

-- how often a call makes this move at most, where so many are wanted
abbrev pub most_of : Move → ℕ → ℕ
most_of (Ask t at) n = min n 1
most_of (Send t at) n = min n MOST_AT_ONCE
most_of (Take t at) n = min n MOST_AT_ONCE
most_of (Pick t at input) n = min n 1
most_of (Row t at) n = min n 1
most_of (Accept h) n = min n 1

-- it was made so many times, one after the other, each time enabled and with its effect; the graph stands for what has happened by
-- that, and what was delivered is behind what stood there
pub record IsMadeTimes {M T : Type 0} (mc : Machine M T) (kd : Nodes M T) (m : Meaning T) (mv : Move) (count : ℕ) (old : Rows M T) (before : Delivered T) (new : Rows M T) (after : Delivered T) : Type 0 where
  pub moves : List (Made T)
  pub named : map (λ d. d.move) moves ≡ replicate count mv
  pub made : AreMade mc kd m old moves new
  pub output : after.signals ≡ before.signals ++ delivered_by moves

-- to whom a move delivers: the subscriber from whose root edge it takes
abbrev pub delivers_to : Move → Option SubId
delivers_to (Ask t at) = None
delivers_to (Send t at) = None
delivers_to (Take (Sub i) at) = if nat_eq at.0 0 then Some i else None
delivers_to (Take (FeedOf h) at) = None
delivers_to (Pick t at input) = None
delivers_to (Row t at) = None
delivers_to (Accept h) = None

-- why the next one is not made: as `make` would say it, but for want of memory, which also comes where the move delivers and there is
-- no memory for one signal more. A move that may not allocate wants it for nothing else
pub record IsNextRefused {M T : Type 0} (mc : Machine M T) (kd : Nodes M T) (m : Meaning T) (a : Allocates) (mv : Move) (g : Rows M T) (out : Delivered T) (why : Refusal) : Type 0 where
  pub refused : IsMakeRefusal g (is_enabled mc kd m g mv) mv why
  pub memory : may_allocate mc kd a g mv ≡ false → why ≡ NoMemory → (is_some (delivers_to mv) ≡ true) × IsFull out
