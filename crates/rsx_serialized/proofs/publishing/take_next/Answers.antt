use Rattle.std.proofs.Common.{refl, sym, ◌∙◌, subst}
use Rattle.rsx_graph.specs.InGraph.{state_of}
use Rattle.rsx_serialized.specs.Resting.{IsNotTaken}
use Rattle.rsx_serialized.proofs.Resting.{left_empty}
use Rattle.rsx_serialized.proofs.Telling.{takes_back, takes_none, takes_one}
use Rattle.rsx_serialized.proofs.publishing.take_next.Goals as goal

pub returns-in-None-clause-takes : goal.returns-in-None-clause-takes
returns-in-None-clause-takes g c =
    let n = c.in-None.ensures.none in
    takes_none (g.O.Ops.meaning c.args.graph.now.ops) (state_of c.args.graph.now) c.args.inlet.now c.next.new.self n.0 n.3.received (n.2 ∙ sym n.1) n.4

pub returns-in-None-clause-rests : goal.returns-in-None-clause-rests
returns-in-None-clause-rests g c e =
    let n = c.in-None.ensures.none in
    (refl, left_empty (state_of c.args.graph.now) c.next.new.self n.2 n.3.waits)

pub returns-in-Ok-clause-takes : goal.returns-in-Ok-clause-takes
returns-in-Ok-clause-takes g c =
    takes_one (g.O.Ops.meaning c.args.graph.now.ops) (state_of c.args.graph.now) (state_of c.publish.new.graph) c.args.inlet.now c.next.new.self c.in-Some.signal c.in-Some.ensures.some c.in-Ok.ensures.stands

pub returns-in-Err-clause-takes : goal.returns-in-Err-clause-takes
returns-in-Err-clause-takes g c = takes_back (g.O.Ops.meaning c.args.graph.now.ops) (state_of c.args.graph.now) (state_of c.publish.new.graph) c.args.inlet.now c.next.new.self c.in-Some.signal c.in-Err.signal c.in-Some.ensures.some c.in-Err.ensures.err c.in-Err.ensures.same

pub returns-in-Err-clause-rests : goal.returns-in-Err-clause-rests
returns-in-Err-clause-rests g c e = (c.in-Err.ensures.same, subst (λ s. IsNotTaken s c.next.new.self.hub c.in-Err.signal) (sym c.in-Err.ensures.same) c.in-Err.ensures.refused)
