use Rattle.std.proofs.Common.{refl}
use Rattle.rsx_graph.specs.InGraph.{state_of}
use Rattle.rsx_serialized.proofs.Closes.{tap_closes}
use Rattle.rsx_serialized.proofs.Telling.{told_stands}
use Rattle.rsx_serialized.proofs.closing.close_tap.Goals as goal

pub returns-clause-closed : goal.returns-clause-closed
returns-clause-closed g c =
    let ends = c.into_ends-down.ensures.ends in
    tap_closes (g.O.Ops.meaning c.args.graph.now.ops) c.args.sub c.args.outlet c.args.tap c.into_ends-down.result.down c.into_ends-down.result.seat c.close-total.result c.is_flag.result _ (state_of c.args.graph.now) (state_of c.stop.new.graph) c.args.untaken.now.items c.put_rest.new.list.items
    ends.0 ends.1 c.close-total.ensures.closes c.requires.end.passed c.is_flag.ensures refl
    (told_stands c.args.graph.now c.ask.new.graph c.stop.new.graph c.args.sub _ c.is_flag.result c.ask.ensures.ops c.ask.ensures.stands c.stop.ensures.stands) c.put_rest.ensures.put
