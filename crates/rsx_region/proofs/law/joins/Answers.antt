use Rattle.rsx_pipe.proofs.Cuts.{after_moves}
use Rattle.rsx_region.proofs.Joinings.{joins_pieces}
use Rattle.rsx_region.proofs.law.joins.Goals as goal

pub returns : goal.returns
returns g c = joins_pieces g.N.Machine g.N.CrossingNodes (after_moves g.N.Machine g.N.CrossingNodes g.met.N.Nodes.local g.met.N.CrossingNodes.holds g.met.N.CrossingNodes.reads_on)
