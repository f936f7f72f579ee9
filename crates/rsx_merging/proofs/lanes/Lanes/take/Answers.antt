use Rattle.rsx_merging.proofs.Places.{placed_taken}
use Rattle.rsx_merging.proofs.lanes.Lanes.take.Goals as goal

pub returns-in-Some : goal.returns-in-Some
returns-in-Some g c = placed_taken c.args.number c.args.self.now c.in-Some.at c.take_at.result c.take_at.new.self c.in-Some.ensures c.take_at.ensures
