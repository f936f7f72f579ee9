use Rattle.std.proofs.Common.{◌≤◌, ◌++◌, [], ◌∷◌}
use Rattle.rsx_gate.specs.Machine.{all_parts}
use Rattle.rsx_gate.specs.Seats.{IsSeatOf, key_of}
use Rattle.rsx_runtime.specs.Poking.{Fits}
use Rattle.rsx_runtime.proofs.Stops.{last_off, last_on, room_left, one_behind}
use Rattle.std.proofs.lemmas.Bool.{false≢true}
use Rattle.rsx_runtime.proofs.stopping.+end_each.Goals as goal

pub end_each-ended-requires-clause-seats : goal.end_each-ended-requires-clause-seats
end_each-ended-requires-clause-seats g t c κs within =
    (last_off (λ g s. IsSeatOf g s × (all_parts ≤ s.me.0.parts)) c.args.gates.items c.pop.new.self.items c.args.seats.items c.pop-2.new.self.items c.in-Some.gate c.in-Some-pop.seat c.requires.seats c.in-Some.ensures.items c.in-Some-pop.ensures.items).0

pub close-requires : goal.close-requires
close-requires g t c =
    (last_off (λ g s. IsSeatOf g s × (all_parts ≤ s.me.0.parts)) c.args.gates.items c.pop.new.self.items c.args.seats.items c.pop-2.new.self.items c.in-Some.gate c.in-Some-pop.seat c.requires.seats c.in-Some.ensures.items c.in-Some-pop.ensures.items).1.0

pub push_reserved-requires : goal.push_reserved-requires
push_reserved-requires g t c =
    let e = c.end_each-ended.ensures.list in
    room_left c.args.gates.items c.pop.new.self.items c.in-Some.gate c.args.regions.items c.end_each-ended.result.items e.0 (λ g' r. Fits g.N.Machine g.O.Ops.meaning (key_of g') r) c.end_each-ended.result.len c.end_each-ended.result.cap c.args.regions.cap c.in-Some.ensures.items c.requires.room e.1 e.2 c.end_each-ended.result.ok.0 c.end_each-ended.ensures.room

pub push_reserved-requires-in-Err : goal.push_reserved-requires-in-Err
push_reserved-requires-in-Err g t c =
    let e = c.end_each-ended.ensures.list in
    room_left c.args.gates.items c.pop.new.self.items c.in-Some.gate c.args.regions.items c.end_each-ended.result.items e.0 (λ g' r. Fits g.N.Machine g.O.Ops.meaning (key_of g') r) c.end_each-ended.result.len c.end_each-ended.result.cap c.args.regions.cap c.in-Some.ensures.items c.requires.room e.1 e.2 c.end_each-ended.result.ok.0 c.end_each-ended.ensures.room

pub returns-in-Ok-clause-list : goal.returns-in-Ok-clause-list
returns-in-Ok-clause-list g t c =
    let e = c.end_each-ended.ensures.list in
    let r = c.in-Ok.region in
    (e.0 ++ r ∷ [], one_behind c.args.regions.items e.0 c.end_each-ended.result.items c.push_reserved.new.self.items r e.1 c.push_reserved.ensures.items, last_on (λ g' r. Fits g.N.Machine g.O.Ops.meaning (key_of g') r) c.args.gates.items c.pop.new.self.items e.0 c.in-Some.gate r c.in-Some.ensures.items e.2 c.in-Ok.ensures.ok.0)

-- the seat has all parts, so the gate gave the region back
pub returns-in-Err-clause-list : goal.returns-in-Err-clause-list
returns-in-Err-clause-list g t c =
    let l = (last_off (λ g s. IsSeatOf g s × (all_parts ≤ s.me.0.parts)) c.args.gates.items c.pop.new.self.items c.args.seats.items c.pop-2.new.self.items c.in-Some.gate c.in-Some-pop.seat c.requires.seats c.in-Some.ensures.items c.in-Some-pop.ensures.items).1.1 in
    absurd (false≢true (c.in-Err.ensures.all l))
