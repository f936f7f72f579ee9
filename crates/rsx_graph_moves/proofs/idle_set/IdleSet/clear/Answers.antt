use Rattle.rsx_graph_moves.specs.IdleSet.{IsApart, IsIn}
use Rattle.rsx_graph_moves.proofs.idle_set.IdleSet.clear.Goals as goal

pub returns-clause-empty : goal.returns-clause-empty
unfolding IsIn
returns-clause-empty c = c.clear.ensures

pub returns-clause-apart : goal.returns-clause-apart
unfolding IsApart
returns-clause-apart c = λ h i known. known
