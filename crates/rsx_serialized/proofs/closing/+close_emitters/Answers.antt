use Rattle.std.specs.Vec.Iter.{into_iter_items, into_iter_len}
use Rattle.rsx_graph.specs.InGraph.{state_of}
use Rattle.rsx_serialized.proofs.Closes.{emitters_none, emitters_step, none_left, took_first}
use Rattle.rsx_serialized.proofs.closing.+close_emitters.Goals as goal

pub returns-in_default-clause-closed : goal.returns-in_default-clause-closed
returns-in_default-clause-closed g t c =
    let none = none_left (into_iter_items c.args.inlets.now) (into_iter_len c.args.inlets.now) c.requires.len c.in_default.ensures.cases.0 in
    emitters_none (g.O.Ops.meaning c.args.graph.now.ops) (into_iter_items c.args.inlets.now) (into_iter_items c.args.links.now) (into_iter_items c.args.emitters.now) (state_of c.args.graph.now) c.args.unpublished.now.items none c.requires.ends

pub returns-clause-closed : goal.returns-clause-closed
returns-clause-closed g t c =
    let inlets = into_iter_items c.args.inlets.now in
    let others = into_iter_items c.next.new.self in
    let emitters = into_iter_items c.args.emitters.now in
    let rest = into_iter_items c.next-3.new.self in
    emitters_step c.args.graph.now c.close_emitter.new.graph c.close_emitters.new.graph inlets others emitters rest c.in-Some.inlet c.unwrap-emitter.result c.args.unpublished.now.items c.close_emitter.new.unpublished.items c.close_emitters.new.unpublished.items
    (took_first inlets others c.next.result c.in-Some.inlet c.next.ensures.items c.in-Some.is) (took_first emitters rest c.next-3.result c.unwrap-emitter.result c.next-3.ensures.items c.unwrap-emitter.ensures)
    c.close_emitter.ensures.ops c.close_emitter.ensures.closed c.close_emitters.ensures.closed
