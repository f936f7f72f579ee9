use Rattle.std.proofs.Common.{refl}
use Rattle.rsx_gate.specs.Seats.{Holds, seat_with_value}
use Rattle.rsx_runtime.proofs.Fits.{held_ends, held_served}
use Rattle.rsx_runtime.proofs.live.serve_held.Goals as goal

pub serve-requires-after_bounds : goal.serve-requires-after_bounds
serve-requires-after_bounds g c κs within =
    held_ends g.N.Machine g.O.Ops.meaning c.args.gate.now c.args.links.now c.args.ops.now (Holds c.args.gate.now c.args.seat.now) c.value_of.result.now c.requires.opened c.requires.holds c.value_of.ensures.value

pub returns : goal.returns
returns g c =
    let e = c.serve.ensures in
    held_served g.N.Machine g.O.Ops.meaning c.args.gate.now c.args.links.now c.args.ops.now c.args.budget _ c.args.seat.now (seat_with_value c.args.seat.now c.serve.new.self) c.value_of.result.now c.serve.new.self c.requires.opened
    c.requires.holds c.value_of.ensures.value refl e.ends e.stands (record { number = e.number; run = e.run; most = e.most; spent = e.budget; idle = e.idle })
