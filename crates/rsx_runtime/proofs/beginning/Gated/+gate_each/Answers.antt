use Rattle.std.proofs.Common.{List, subst, sym, ◌∙◌}
use Rattle.rsx_region.specs.declared.region.Region.{Region}
use Rattle.rsx_runtime.specs.Beginning.{AreBackOf, AreGatesFor, IsBackOf, IsGateFor, IsReady}
use Rattle.rsx_runtime.proofs.Begins.{each_front, if_err_map, if_ok_map, itself, room_beside, room_kept, room_over, zip_on_both}
use Rattle.std.proofs.Common.{refl}
use Rattle.rsx_runtime.proofs.beginning.Gated.+gate_each.Goals as goal

pub gate_each-requires-clause-ready : goal.gate_each-requires-clause-ready
gate_each-requires-clause-ready g t c κs within = (each_front (IsReady g.N.Machine (g.O.Ops.meaning c.args.ops.now) c.args.values c.args.links.now.items) c.args.self.regions.items c.pop.new.self.items c.in-Some.region c.in-Some.ensures.items c.requires.ready).0

pub gate_one-requires-clause-ready : goal.gate_one-requires-clause-ready
gate_one-requires-clause-ready g t c κs within = (each_front (IsReady g.N.Machine (g.O.Ops.meaning c.args.ops.now) c.args.values c.args.links.now.items) c.args.self.regions.items c.pop.new.self.items c.in-Some.region c.in-Some.ensures.items c.requires.ready).1

pub gate_one-requires-clause-room : goal.gate_one-requires-clause-room
gate_one-requires-clause-room g t c κs within =
    let all = c.args.self.regions.items in
    let rest = c.pop.new.self.items in
    let caps = c.in-Ok.ensures.room in
    let room = c.requires.room in
    let made = c.in-Ok.made in
    let P = IsGateFor c.args.links.now.items c.args.ops.now c.args.values in
    let gates = c.in-Ok.ensures.ok.gates in
    record {
      gates = room_over P rest made.gates.items _ gates (room_kept all rest c.in-Some.region _ _ c.in-Some.ensures.items caps.0 room.gates);
      seats = room_over P rest made.gates.items _ gates (room_kept all rest c.in-Some.region _ _ c.in-Some.ensures.items caps.1 room.seats);
      regions = room_over P rest made.gates.items _ gates (room_kept all rest c.in-Some.region _ _ c.in-Some.ensures.items (caps.2 ∙ c.pop.ensures.capacity) room.regions);
    }

pub push_reserved-requires : goal.push_reserved-requires
push_reserved-requires g t c =
    let rest = c.pop.new.self.items in
    let back = c.in-Err.regions in
    room_beside (IsBackOf g.N.Machine (g.O.Ops.meaning c.args.ops.now) c.args.values c.args.links.now.items) rest back.items back.len _ c.in-Err.ensures.err back.ok.0 (room_kept c.args.self.regions.items rest c.in-Some.region _ _ c.in-Some.ensures.items (c.in-Err.ensures.back ∙ c.pop.ensures.capacity) c.requires.room.regions)

pub returns-in-Ok-clause-ok : goal.returns-in-Ok-clause-ok
returns-in-Ok-clause-ok g t c = if_ok_map c.gate_one.result _ _ (λ m h. let R : List (Region _ _) → Type 0 = λ rs. AreGatesFor c.args.links.now.items c.args.ops.now c.args.values rs m in subst R (sym c.in-Some.ensures.items) (h c.pop.new.self.items c.in-Ok.ensures.ok)) c.gate_one.ensures.ok

pub returns-in-Ok-clause-room : goal.returns-in-Ok-clause-room
returns-in-Ok-clause-room g t c = if_ok_map c.gate_one.result _ _ (λ m h. let caps = c.in-Ok.ensures.room in (h.0 ∙ caps.0, h.1 ∙ caps.1, h.2 ∙ (caps.2 ∙ c.pop.ensures.capacity))) c.gate_one.ensures.room

pub returns-in-Ok-clause-err : goal.returns-in-Ok-clause-err
returns-in-Ok-clause-err g t c = if_err_map c.gate_one.result _ _ (λ back h. let R : List (Region _ _) → Type 0 = λ rs. AreBackOf g.N.Machine (g.O.Ops.meaning c.args.ops.now) c.args.values c.args.links.now.items rs back.items in subst R (sym c.in-Some.ensures.items) (h c.pop.new.self.items c.in-Ok.ensures.ok)) c.gate_one.ensures.err

pub returns-in-Ok-clause-back : goal.returns-in-Ok-clause-back
returns-in-Ok-clause-back g t c = if_err_map c.gate_one.result _ _ (λ back h. h ∙ (c.in-Ok.ensures.room.2 ∙ c.pop.ensures.capacity)) c.gate_one.ensures.back

pub returns-in-Err-clause-err : goal.returns-in-Err-clause-err
returns-in-Err-clause-err g t c =
    let m = g.O.Ops.meaning c.args.ops.now in
    let ready = (each_front (IsReady g.N.Machine m c.args.values c.args.links.now.items) c.args.self.regions.items c.pop.new.self.items c.in-Some.region c.in-Some.ensures.items c.requires.ready).1 in
    zip_on_both (IsBackOf g.N.Machine m c.args.values c.args.links.now.items) c.pop.new.self.items c.args.self.regions.items c.in-Err.regions.items c.push_reserved.new.self.items c.in-Some.region c.in-Some.region c.in-Some.ensures.items c.push_reserved.ensures.items c.in-Err.ensures.err (itself g.N.Machine g.O.Ops.meaning c.args.links.now.items c.args.ops.now c.args.values c.in-Some.region c.in-Some.region refl ready)
