use Rattle.std.proofs.Common.{refl}
use Rattle.rsx_live.proofs.Starts.{taps_started}
use Rattle.rsx_live.proofs.graph.StartedGraph.take.Goals as goal

pub returns-clause-started : goal.returns-clause-started
returns-clause-started g c = record { graph = c.requires.graph; is = taps_started c.requires.graph c.args.self.now _ refl c.requires.is refl c.take.ensures.taps }

pub returns-clause-stays : goal.returns-clause-stays
returns-clause-stays g c = λ graph is. taps_started graph c.args.self.now _ refl is refl c.take.ensures.taps
