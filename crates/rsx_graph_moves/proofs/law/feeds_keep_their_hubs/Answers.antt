use Rattle.rsx_graph_moves.proofs.Keeping.{lead_keep}
use Rattle.rsx_graph_moves.proofs.law.feeds_keep_their_hubs.Goals as goal

pub returns : goal.returns
returns g c = λ m old new moves k. lead_keep g.N.Machine g.N.Nodes m old moves new k
