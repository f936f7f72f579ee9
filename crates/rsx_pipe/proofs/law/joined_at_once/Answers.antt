use Rattle.rsx_pipe.proofs.Cuts.{at_once}
use Rattle.rsx_pipe.proofs.law.joined_at_once.Goals as goal

pub returns : goal.returns
returns g c = at_once g.N.Machine g.N.CrossingNodes
