use Rattle.rsx_serialized.proofs.Drives.{seat_started}
use Rattle.rsx_serialized.proofs.starting.StartedGraph.poke.Goals as goal

pub returns-clause-started : goal.returns-clause-started
returns-clause-started g c = seat_started c.args.self.now c.requires c.poke.new.seat c.poke.ensures.seat c.poke.ensures.parts
