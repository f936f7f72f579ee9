use denote.RattleType.{RattleType}
use denote.Param.Send.{IsSend, sendable}
use Rattle.std.proofs.Common.{◌≡◌, ◌≤◌, arith, rules}
use Rattle.std.proofs.Crossing.{crosses}
use Rattle.rsx_gate.below.atomic_table.proofs.shared.Seat.TheSendSync as Seat
use Rattle.rsx_gate.specs.Machine.{all_parts}
use Rattle.rsx_gate.specs.Seats.{IsSeatOf}
use Rattle.rsx_runtime.proofs.Crosses.{live, region}
use Rattle.rsx_runtime.proofs.Seated.{gates_at, same_there, zip_kept}
use Rattle.rsx_live.proofs.Crosses.{tree_node}
use Rattle.rsx_live.proofs.serving.serve_live.Goals as goal

pub serve_seats-requires-send-S : goal.serve_seats-requires-send-S
serve_seats-requires-send-S g c κs within =
    let items = c.type_bounds.send-T in
    search (sendable, crosses, tree_node, region, Seat.the_send) depth 40 fits 100000

pub serve_seats-requires-clause-seats : goal.serve_seats-requires-clause-seats
serve_seats-requires-clause-seats g c κs within k s w at =
    let z = gates_at (λ g' s. IsSeatOf g' s × (all_parts ≤ s.me.0.parts)) c.args.live.now.gates.items c.args.seats.items k s c.requires.seats at in
    ((z.0, z.1, z.2.0), search (rules, sendable))

pub serve_seats-requires-sync-L : goal.serve_seats-requires-sync-L
serve_seats-requires-sync-L g c κs within =
    let items = c.type_bounds.send-T in
    let functions = c.type_bounds.sync-O in
    let handle = c.type_bounds.sync-R in
    search (sendable, crosses, live, tree_node) depth 40 fits 100000

pub returns-clause-seats : goal.returns-clause-seats
returns-clause-seats g c =
    let e = c.serve_seats.ensures.seats in
    zip_kept (λ g' s. IsSeatOf g' s × (all_parts ≤ s.me.0.parts)) c.args.live.now.gates.items c.args.seats.items c.serve_seats.result.0.items c.requires.seats e.count (λ k g' s t at old new p.
    let h = e.each k s t old new in
    let q = h.1.1.0 in
    let m = h.1.1.1 in
    let all = p.1 in
    (same_there (λ x. IsSeatOf x t) c.args.live.now.gates.items k g' q.0 at q.1 q.2, omega (arith, m, all)))
