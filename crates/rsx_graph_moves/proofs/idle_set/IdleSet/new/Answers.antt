use Rattle.rsx_graph_moves.specs.IdleSet.{IsIn}
use Rattle.rsx_graph_moves.proofs.idle_set.IdleSet.new.Goals as goal

pub returns : goal.returns
unfolding IsIn
returns c = λ i has. c.new.ensures i has
