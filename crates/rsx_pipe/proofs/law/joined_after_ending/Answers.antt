use Rattle.rsx_pipe.proofs.Rejoins.{after_ending}
use Rattle.rsx_pipe.proofs.law.joined_after_ending.Goals as goal

pub returns : goal.returns
returns g c = after_ending g.N.Machine g.N.CrossingNodes g.met.N.Nodes.local g.met.N.CrossingNodes.holds g.met.N.CrossingNodes.reads_on
