use Rattle.std.proofs.Common.{refl, w64}
use Rattle.std.proofs.lemmas.Int.{to_z-of_z}
use Rattle.rsx_live_parts.proofs.Taps.{asked_so}
use Rattle.rsx_live.proofs.Starts.{taps_started}
use Rattle.rsx_live.proofs.graph.StartedGraph.request.Goals as goal

pub returns-clause-started : goal.returns-clause-started
returns-clause-started g c = record { graph = c.requires.graph; is = taps_started c.requires.graph c.args.self.now _ refl c.requires.is refl c.request.ensures.taps }

pub returns-clause-stays : goal.returns-clause-stays
returns-clause-stays g c = λ graph is. taps_started graph c.args.self.now _ refl is refl c.request.ensures.taps

pub returns-clause-requested : goal.returns-clause-requested
returns-clause-requested g c = asked_so _ c.args.n c.request.result c.args.sub c.args.self.now.taps.items c.request.new.taps.items (to_z-of_z w64 c.args.n c.ranges.n) c.request.ensures.requested
