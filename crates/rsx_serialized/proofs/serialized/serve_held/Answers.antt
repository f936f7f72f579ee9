use Rattle.std.proofs.Common.{refl}
use Rattle.rsx_gate.specs.Seats.{Holds, seat_with_value}
use Rattle.rsx_serialized.proofs.Gates.{held_ends, held_rests, held_served}
use Rattle.rsx_serialized.proofs.serialized.serve_held.Goals as goal

pub serve-requires-after_bounds : goal.serve-requires-after_bounds
serve-requires-after_bounds g c κs within = held_ends c.args.gate.now c.args.links.now (Holds c.args.gate.now c.args.seat.now) c.value_of.result.now c.requires.opened c.requires.holds c.value_of.ensures.value

pub returns-clause-holds : goal.returns-clause-holds
returns-clause-holds g c = held_served c.args.gate.now c.args.links.now c.args.seat.now (seat_with_value c.args.seat.now c.serve.new.self) c.value_of.result.now c.serve.new.self c.requires.opened c.requires.holds c.value_of.ensures.value refl c.serve.ensures.goes

pub returns-clause-rests : goal.returns-clause-rests
returns-clause-rests g c e = held_rests c.args.gate.now c.args.links.now c.args.seat.now (seat_with_value c.args.seat.now c.serve.new.self) c.value_of.result.now c.serve.new.self c.requires.opened c.requires.holds c.value_of.ensures.value refl c.serve.ensures.goes (c.serve.ensures.idle e)
