use Rattle.rsx_region.proofs.Inlets.{link_sent}
use Rattle.rsx_region.proofs.Pieces.{in_step_same, in_step_sent, stands_same, stands_sent}
use Rattle.rsx_region.proofs.outgoing.send.Goals as goal

pub returns-in-Ok-clause-step : goal.returns-in-Ok-clause-step
returns-in-Ok-clause-step g c =
    let m = g.O.Ops.meaning c.args.ops.now in
    let room = c.has_room.ensures.same in
    let sent = c.put.ensures in
    in_step_sent g.N.Machine m c.args.part.now c.send_out.new.self c.has_room.new.self c.put.new.self c.in-Ok.signal
    (in_step_same c.args.part.now c.args.up.now c.has_room.new.self c.requires.step room.0.1 room.0.2 room.1) c.in-Ok.ensures.sent sent.same.1 sent.same.2 sent.sent

pub returns-in-Ok-clause-stands : goal.returns-in-Ok-clause-stands
returns-in-Ok-clause-stands g c taken old queued h =
    let m = g.O.Ops.meaning c.args.ops.now in
    let room = c.has_room.ensures.same in
    let sent = c.put.ensures in
    stands_sent g.N.Machine m taken old queued c.args.part.now c.send_out.new.self c.has_room.new.self c.put.new.self c.in-Ok.signal
    (stands_same g.N.Machine m taken old queued c.args.part.now c.args.up.now c.has_room.new.self h room.0.1 room.0.2 room.1) c.in-Ok.ensures.sent sent.same.1 sent.same.2 sent.sent

pub returns-in-Ok-clause-inlets : goal.returns-in-Ok-clause-inlets
returns-in-Ok-clause-inlets g c taken i h = link_sent g.N.Machine (g.O.Ops.meaning c.args.ops.now) taken c.args.part.now c.send_out.new.self c.in-Ok.signal i.hub i.down i.closer c.in-Ok.ensures.sent h
