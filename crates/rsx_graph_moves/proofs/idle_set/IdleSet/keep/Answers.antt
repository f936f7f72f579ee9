use Rattle.rsx_graph_moves.specs.IdleSet.{IsApart, IsIn}
use Rattle.rsx_graph_moves.proofs.idle_set.IdleSet.keep.Goals as goal

pub returns-clause-idle : goal.returns-clause-idle
unfolding IsIn
returns-clause-idle c = c.common-self.ensures

pub returns-clause-apart : goal.returns-clause-apart
unfolding IsApart
returns-clause-apart c = λ h i known. known
