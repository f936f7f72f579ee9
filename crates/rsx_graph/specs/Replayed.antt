-- What a list of steps gives, from nothing.
use Rattle.rsx_graph.specs.Kinds.{Headline}
use Rattle.std.specs.Prelude.{List, Option}
use Rattle.rsx_graph_state.specs.declared.step.Answer.{Answer}
use Rattle.rsx_sources.specs.Prelude.{Meaning, Allocates, Signal}
use Rattle.rsx_graph.specs.Done.{AllDone}
use Rattle.rsx_graph.specs.Stands.{GraphStands, GraphState, nothing}
use Rattle.rsx_graph.specs.Steps.{AllBelong, all_extended, no_history}
use Rattle.rsx_graph.specs.declared.step.Step.{Step}

-- these steps, on a graph with no hub and no subscription, got these answers and left this graph
pub record IsReplayed {T : Type 0} (m : Meaning T) (a : Allocates) (steps : List (Step T)) (answers : List (Answer T)) (graph : GraphState T) : Type 0 where
  -- what went out of a feed into its hub by each step
  pub sent : List (Option (Signal T))
  -- each step did what its answer says, one after the other
  pub done : AllDone m a nothing steps answers sent graph
  -- each answer belongs to its step, by what had happened before it
  pub belongs : AllBelong no_history steps answers sent
  -- the graph stands for what has happened, which the steps, their answers and what went out of feeds tell
  pub stands : GraphStands m graph (all_extended no_history steps answers sent)
  -- and the headline holds of it
  pub headline : Headline m graph.rows (all_extended no_history steps answers sent)
