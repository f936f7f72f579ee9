use Rattle.std.proofs.Common.{rules}
use denote.Param.Send.{IsSend, IsSync, sendable}
use Rattle.std.proofs.Crossing.{crosses}
use Rattle.rsx_demo.specs.contracts.demo.Demo as Demo
use Rattle.rsx_demo.specs.contracts.val.Val as Val
use Rattle.rsx_demo.proofs.val.Vals.TheLaws.TheKnot as ValKnot
use Rattle.rsx_link.proofs.cancel.CancelSeat.TheSendSync as CancelSeat
use Rattle.rsx_live.proofs.Crosses.{tree_node}
use Rattle.rsx_runtime.proofs.Crosses.{live}
use Rattle.rsx_runtime.specs.contracts.tap.Canceller as Canceller
use Rattle.test_live.proofs.Cancelling.{canceller_of_same}
use Rattle.test_live.proofs.beside.take_beside.Goals as goal

val : IsSend Val.the_row
val = search (sendable, crosses, ValKnot.crosses) depth 40

demo : IsSync Demo.the_row
demo = search sendable depth 20

canceller : IsSend Canceller.the_row
canceller = search (sendable, crosses, CancelSeat.the_field_send) depth 40

pub join-taken-requires-send-F : goal.join-taken-requires-send-F
join-taken-requires-send-F g c κs within =
    let runtime = c.type_bounds.sync-R in
    search (sendable, crosses, live, tree_node, val, demo, canceller) depth 40 fits 100000

pub join-taken-requires-after_bounds : goal.join-taken-requires-after_bounds
join-taken-requires-after_bounds g c κs within =
    let runtime = c.type_bounds.sync-R in
    let made = canceller_of_same c.live-live.result.now c.args.graph.now.subs.live c.canceller_at-canceller.result c.live-live.ensures c.canceller_at-canceller.ensures.canceller in
    ((search (rules, sendable) depth 20, made), (c.canceller_at-canceller.ensures.taps, search (rules, sendable) depth 20))
