use Rattle.rsx_graph_moves.specs.IdleSet.{IsApart, IsIn}
use Rattle.rsx_graph_moves.proofs.idle_set.IdleSet.remove.Goals as goal

pub returns : goal.returns
unfolding IsApart IsIn
returns c = record { idle = c.remove.ensures; apart = λ h i known. known }
