use Rattle.std.proofs.Common.{◌++◌}
use Rattle.std.specs.Option.{option_to_list}
use Rattle.rsx_graph.specs.InGraph.{state_of}
use Rattle.rsx_serialized.proofs.Closes.{publishes_back, publishes_none, publishes_step}
use Rattle.rsx_serialized.proofs.closing.+publish_left.Goals as goal

pub returns-in_default-clause-published : goal.returns-in_default-clause-published
returns-in_default-clause-published g t c = publishes_none (g.O.Ops.meaning c.args.graph.now.ops) c.args.hub (option_to_list c.args.waiting ++ c.args.remaining.now) (state_of c.args.graph.now) c.args.unpublished.now.items c.in_default.ensures.none

pub returns-in-Ok-clause-published : goal.returns-in-Ok-clause-published
returns-in-Ok-clause-published g t c =
    publishes_step c.args.graph.now c.publish.new.graph c.publish_left.new.graph c.args.hub (option_to_list c.args.waiting ++ c.args.remaining.now) c.next_left.new.remaining c.in-Some.signal c.args.unpublished.now.items c.publish_left.new.unpublished.items
    c.in-Some.ensures.some c.in-Ok.ensures.ops c.in-Ok.ensures.stands c.publish_left.ensures.published

pub returns-in-Err-clause-published : goal.returns-in-Err-clause-published
returns-in-Err-clause-published g t c =
    publishes_back (g.O.Ops.meaning c.args.graph.now.ops) c.args.hub (option_to_list c.args.waiting ++ c.args.remaining.now) c.next_left.new.remaining c.in-Some.signal c.in-Err.signal (state_of c.args.graph.now) (state_of c.publish.new.graph) c.args.unpublished.now.items c.push_reserved.new.self.items c.put_rest.new.list.items
    c.in-Some.ensures.some c.in-Err.ensures.err c.in-Err.ensures.same c.in-Err.ensures.refused c.push_reserved.ensures.items c.put_rest.ensures.put
