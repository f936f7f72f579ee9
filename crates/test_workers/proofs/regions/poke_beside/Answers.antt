use denote.RattleType.{RattleType}
use denote.Param.Send.{IsSend, sendable}
use Rattle.std.proofs.Crossing.{crosses}
use Rattle.rsx_gate.below.atomic_table.proofs.shared.Seat.TheSendSync as Seat
use Rattle.rsx_runtime.proofs.Crosses.{live, region}
use Rattle.test_workers.proofs.regions.poke_beside.Goals as goal

pub join-requires-send-F : goal.join-requires-send-F
join-requires-send-F g c κs within =
    let nodes = c.type_bounds.send-N in
    let items = c.type_bounds.send-T in
    let functions = c.type_bounds.sync-O in
    search (sendable, crosses, live, region, Seat.the_send) depth 40 fits 100000
