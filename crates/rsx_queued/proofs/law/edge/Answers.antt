use Rattle.rsx_queued.proofs.Edges.{edge}
use Rattle.rsx_queued.proofs.law.edge.Goals as goal

pub returns : goal.returns
returns g c = edge g.M.Machine
