use Rattle.std.proofs.Common.{inr, w64}
use Rattle.std.proofs.lemmas.Int.{to_z-of_z}
use Rattle.rsx_graph.specs.InGraph.{state_of}
use Rattle.rsx_verify.proofs.Leading.{none_recorded, request_answered, request_unanswered}
use Rattle.rsx_verify.proofs.recording.Recording.request.Goals as goal

pub returns-in_default-clause-acted : goal.returns-in_default-clause-acted
returns-in_default-clause-acted g c =
    let none = none_recorded c.args.sub (state_of c.args.self.now.graph) (state_of c.request.new.self) c.args.self.now.events.items c.in_default.ensures.err.1 c.in_default.ensures.same in
    (none.0, none.1, inr none.2)

pub returns-in_ok-note_delivery-in-Some-clause-acted : goal.returns-in_ok-note_delivery-in-Some-clause-acted
returns-in_ok-note_delivery-in-Some-clause-acted g c =
    let n = to_z-of_z w64 c.args.count c.ranges.count in
    request_answered (g.O.Ops.meaning c.args.self.now.graph.ops) c.args.self.now.region c.args.sub c.args.count (state_of c.args.self.now.graph) (state_of c.request.new.self) c.in-Ok.answer c.in-Some.signal c.args.self.now.events.items c.note.new.events.items c.note_delivery.new.events.items
    (rw n at c.in_ok-note.ensures.noted) c.in_ok-note_delivery-in-Some.ensures.noted c.in-Some.is (rw n at c.in-Ok.ensures.effect) c.in-Ok.ensures.aside (rw n at c.in-Ok.ensures.stands)

pub returns-in-None-clause-acted : goal.returns-in-None-clause-acted
returns-in-None-clause-acted g c =
    let n = to_z-of_z w64 c.args.count c.ranges.count in
    request_unanswered (g.O.Ops.meaning c.args.self.now.graph.ops) c.args.self.now.region c.args.sub c.args.count (state_of c.args.self.now.graph) (state_of c.request.new.self) c.in-Ok.answer c.args.self.now.events.items c.note.new.events.items
    (rw n at c.in_ok-note.ensures.noted) c.in-None.is (rw n at c.in-Ok.ensures.effect) c.in-Ok.ensures.aside (rw n at c.in-Ok.ensures.stands)
