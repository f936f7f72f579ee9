use Rattle.rsx_pipe.proofs.Cuts.{after_moves}
use Rattle.rsx_pipe.proofs.law.joined_after_moves.Goals as goal

pub returns : goal.returns
returns g c = after_moves g.N.Machine g.N.CrossingNodes g.met.N.Nodes.local g.met.N.CrossingNodes.holds g.met.N.CrossingNodes.reads_on
