use Rattle.std.proofs.Common.{◌≡◌, ◌+◌, arith, refl, suc}
use Rattle.std.specs.Vec.Iter.{into_iter_items, into_iter_len}
use Rattle.rsx_graph.specs.InGraph.{state_of}
use Rattle.rsx_serialized.proofs.Closes.{none_left, taps_none, taps_step, took_first}
use Rattle.rsx_serialized.proofs.closing.+close_taps.Goals as goal

pub returns-in_default-clause-closed : goal.returns-in_default-clause-closed
returns-in_default-clause-closed g t c =
    let none = none_left (into_iter_items c.args.taps.now) (into_iter_len c.args.taps.now) c.requires.len c.in_default.ensures.cases.0 in
    taps_none (g.O.Ops.meaning c.args.graph.now.ops) c.args.first (into_iter_items c.args.outlets.now) (into_iter_items c.args.taps.now) (state_of c.args.graph.now) c.args.untaken.now.items none

pub returns-clause-closed : goal.returns-clause-closed
returns-clause-closed g t c =
    let taps = into_iter_items c.args.taps.now in
    let rest = into_iter_items c.next.new.self in
    let outlets = into_iter_items c.args.outlets.now in
    let others = into_iter_items c.next-3.new.self in
    let one : c.args.first + 1 ≡ suc c.args.first = omega arith in
    taps_step c.args.graph.now c.close_tap.new.graph c.close_taps.new.graph c.args.first (c.args.first + 1) _ outlets others taps rest c.unwrap-outlet.result c.in-Some.tap c.args.untaken.now.items c.close_tap.new.untaken.items c.close_taps.new.untaken.items
    (took_first outlets others c.next-3.result c.unwrap-outlet.result c.next-3.ensures.items c.unwrap-outlet.ensures) (took_first taps rest c.next.result c.in-Some.tap c.next.ensures.items c.in-Some.is) refl one
    c.close_tap.ensures.ops c.close_tap.ensures.closed c.close_taps.ensures.closed
