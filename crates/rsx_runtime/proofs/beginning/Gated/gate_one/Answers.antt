use Rattle.std.proofs.Common.{◌≤◌, ap, refl}
use Rattle.rsx_gate.specs.Machine.{all_parts}
use Rattle.rsx_gate.specs.Seats.{IsSeatOf, key_of}
use Rattle.rsx_region.specs.declared.opening.Opening.{Opening}
use Rattle.rsx_runtime.specs.Beginning.{IsGateFor}
use Rattle.rsx_runtime.specs.Poking.{Fits}
use Rattle.rsx_runtime.proofs.Begins.{all_with, both_on, gate_for, has_all, room_behind, room_beside, zip_on_both}
use Rattle.rsx_runtime.proofs.Fits.{first_fits}
use Rattle.rsx_runtime.proofs.beginning.Gated.gate_one.Goals as goal

pub new-requires : goal.new-requires
new-requires g c =
    let key : Opening g.row.N.Denot g.row.T.Denot g.row.O.Denot = record { number = c.args.region.number; values = c.args.values; ops = c.of.result; pieces = c.of-2.result; links = c.of-3.result } in
    first_fits g.N.Machine g.O.Ops.meaning key c.args.links.now.items c.args.ops.now c.args.values c.args.region refl refl c.of.ensures (ap (λ v. v.items) c.of-2.ensures) (ap (λ v. v.items) c.of-3.ensures) c.requires.ready.ends c.requires.ready.stands

pub push_reserved-requires-in-Ok : goal.push_reserved-requires-in-Ok
push_reserved-requires-in-Ok g c = room_beside _ c.args.self.gates.items c.args.self.seats.items c.args.self.seats.len _ c.requires.made.1.seats c.args.self.seats.ok.0 c.requires.room.seats

pub returns-in-Ok-clause-ok : goal.returns-in-Ok-clause-ok
returns-in-Ok-clause-ok g c = λ rs h.
    let key : Opening g.row.N.Denot g.row.T.Denot g.row.O.Denot = record { number = c.args.region.number; values = c.args.values; ops = c.of.result; pieces = c.of-2.result; links = c.of-3.result } in
    let made = c.in-Ok.ensures.ok in
    let for = gate_for g.N.Machine g.O.Ops.meaning c.args.links.now.items c.args.ops.now c.args.values c.in-Ok.gate key c.args.region made.0 refl refl c.of.ensures (ap (λ v. v.items) c.of-2.ensures) (ap (λ v. v.items) c.of-3.ensures) in
    record {
      gates = both_on (IsGateFor c.args.links.now.items c.args.ops.now c.args.values) rs c.args.self.gates.items c.push_reserved.new.self.items c.args.region c.in-Ok.gate c.push_reserved.ensures.items h.gates for;
      seats = zip_on_both (λ g' s. IsSeatOf g' s × (all_parts ≤ s.me.0.parts)) c.args.self.gates.items c.push_reserved.new.self.items c.args.self.seats.items c.push_reserved-in-Ok.new.self.items c.in-Ok.gate c.in-Ok.seat c.push_reserved.ensures.items c.push_reserved-in-Ok.ensures.items h.seats (made.1, has_all c.in-Ok.seat.me.0.parts (ap (λ v. v.parts) made.2));
      none = h.none;
    }

pub push_reserved-requires-in-Err : goal.push_reserved-requires-in-Err
push_reserved-requires-in-Err g c =
    let e = c.end_each-back.ensures.list in
    room_behind (λ g' r. Fits g.N.Machine g.O.Ops.meaning (key_of g') r) c.args.self.gates.items e.0 c.args.self.regions.items c.end_each-back.result.items c.end_each-back.result.len c.end_each-back.result.cap c.args.self.regions.cap e.2 e.1 c.requires.made.1.none c.end_each-back.result.ok.0 c.end_each-back.ensures.room c.requires.room.regions

pub returns-clause-err : goal.returns-clause-err
returns-clause-err g c = λ rs h.
    let e = c.end_each-back.ensures.list in
    all_with g.N.Machine g.O.Ops.meaning c.args.links.now.items c.args.ops.now c.args.values rs c.args.self.gates.items c.args.self.regions.items e.0 c.end_each-back.result.items c.push_reserved-in-Err.new.self.items c.args.region c.in-Err.region h.gates e.2 h.none e.1 c.push_reserved-in-Err.ensures.items c.in-Err.ensures.err c.requires.ready
