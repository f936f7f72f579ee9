use Rattle.std.proofs.Common.{◌≡◌, length, rules}
use denote.Param.Send.{sendable}
use Rattle.rsx_runtime.proofs.Seated.{may_front, may_last, served_too}
use Rattle.rsx_runtime.proofs.each.+fn-serve_each-join+arg3+serve_each.Goals as goal

pub join-seat-requires-after_bounds : goal.join-seat-requires-after_bounds
join-seat-requires-after_bounds g t c κs within =
    let h = c.in-Some.ensures in
    let place : c.len.result ≡ length c.pop.new.self.items = search rules in
    let last = may_last g.L.Fn c.args.serve.now c.args.seats.items c.pop.new.self.items c.in-Some.seat c.in-Some-pop.rest c.len.result h.items place c.requires.seats in
    let front = may_front g.L.Fn c.args.serve.now c.args.seats.items c.pop.new.self.items c.in-Some.seat h.items c.requires.seats in
    (last, search (rules, sendable) depth 20)

pub returns-clause-seats : goal.returns-clause-seats
returns-clause-seats g t c =
    let h = c.in-Some.ensures in
    let place : c.len.result ≡ length c.pop.new.self.items = search rules in
    let first = c.join-seat.ensures.first in
    let second = c.join-seat.ensures.second in
    served_too g.L.Fn c.args.serve.now c.args.seats.items c.pop.new.self.items c.in-Some.seat c.in-Some-pop.rest c.len.result c.join-seat.result.1.0.items c.join-seat.result.0 c.push_reserved.new.self.items h.items place first second.0 c.push_reserved.ensures.items
