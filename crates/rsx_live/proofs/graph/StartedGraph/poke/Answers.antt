use Rattle.std.proofs.Common.{refl}
use Rattle.rsx_live.proofs.Starts.{seats_started}
use Rattle.rsx_live.proofs.graph.StartedGraph.poke.Goals as goal

pub returns-clause-started : goal.returns-clause-started
returns-clause-started g c = record { graph = c.requires.graph; is = seats_started c.requires.graph c.args.self.now _ refl c.requires.is refl c.poke.ensures.seats }

pub returns-clause-stays : goal.returns-clause-stays
returns-clause-stays g c = λ graph is. seats_started graph c.args.self.now _ refl is refl c.poke.ensures.seats
