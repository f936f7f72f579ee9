use Rattle.std.proofs.lemmas.Bool.{false≢true}
use Rattle.rsx_gate.specs.Seats.{key_of}
use Rattle.rsx_serialized.proofs.Gates.{has_stopped}
use Rattle.rsx_serialized.proofs.serialized.SerializedGraph.stop.Goals as goal

pub returns-in-Ok-clause-stopped : goal.returns-in-Ok-clause-stopped
returns-in-Ok-clause-stopped g c = has_stopped (key_of c.args.self.gate) c.args.self.links c.in-Ok.region c.args.self.opened c.in-Ok.ensures.ok.0

-- the seat has all parts, so the gate gives back what fits
pub returns-in-Err-clause-stopped : goal.returns-in-Err-clause-stopped
returns-in-Err-clause-stopped g c = absurd (false≢true (c.in-Err.ensures.all c.requires.1))
