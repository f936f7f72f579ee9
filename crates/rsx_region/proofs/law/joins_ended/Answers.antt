use Rattle.rsx_pipe.proofs.Rejoins.{after_ending}
use Rattle.rsx_region.proofs.Joinings.{joins_ended}
use Rattle.rsx_region.proofs.law.joins_ended.Goals as goal

pub returns : goal.returns
returns g c = joins_ended g.N.Machine g.N.CrossingNodes g.met.N.CrossingNodes.holds (after_ending g.N.Machine g.N.CrossingNodes g.met.N.Nodes.local g.met.N.CrossingNodes.holds g.met.N.CrossingNodes.reads_on)
