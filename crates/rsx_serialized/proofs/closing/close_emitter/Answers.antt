use Rattle.rsx_graph.specs.InGraph.{state_of}
use Rattle.rsx_serialized.proofs.Closes.{emitter_closes}
use Rattle.rsx_serialized.proofs.closing.close_emitter.Goals as goal

pub returns-clause-closed : goal.returns-clause-closed
returns-clause-closed g c =
    emitter_closes (g.O.Ops.meaning c.args.graph.now.ops) c.args.inlet c.args.emitter c.into_end.result c.close-remaining.result (state_of c.args.graph.now) (state_of c.publish_left.new.graph) c.args.unpublished.now.items c.publish_left.new.unpublished.items c.into_end.ensures c.close-remaining.ensures.closes c.publish_left.ensures.published
