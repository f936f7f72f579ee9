use Rattle.rsx_pipe.proofs.Rejoins.{at_end}
use Rattle.rsx_pipe.proofs.law.joined_at_end.Goals as goal

pub returns : goal.returns
returns g c = at_end g.N.Machine g.N.CrossingNodes g.met.N.Nodes.local g.met.N.CrossingNodes.holds g.met.N.CrossingNodes.holds_ending g.met.N.CrossingNodes.reads_on g.met.N.CrossingNodes.reads_ended
