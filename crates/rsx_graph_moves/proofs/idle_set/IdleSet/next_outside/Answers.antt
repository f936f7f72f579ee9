use Rattle.rsx_graph_moves.specs.IdleSet.{IsIn}
use Rattle.rsx_graph_moves.proofs.idle_set.IdleSet.next_outside.Goals as goal

pub returns-clause-outside : goal.returns-clause-outside
unfolding IsIn
returns-clause-outside c = c.next_outside.ensures.outside

pub returns-clause-first : goal.returns-clause-first
unfolding IsIn
returns-clause-first c = c.next_outside.ensures.first
