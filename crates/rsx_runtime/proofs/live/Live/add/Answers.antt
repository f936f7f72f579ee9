use Rattle.std.proofs.Common.{[], ◌∷◌, ◌++◌, refl, ap, sym, ◌∙◌}
use Rattle.std.proofs.lemmas.Result.{err_from_is_err_and}
use Rattle.rsx_gate.specs.Machine.{founder}
use Rattle.rsx_region.specs.declared.opening.Opening.{Opening}
use Rattle.rsx_runtime.specs.Poking.{IsGateOf}
use Rattle.rsx_runtime.proofs.Fits.{first_fits}
use Rattle.rsx_runtime.proofs.Gates.{each_pushed, each_same, opened_by, pushed_onto, room_for}
use Rattle.rsx_runtime.proofs.live.Live.add.Goals as goal

pub invariant_of-self : goal.invariant_of-self
invariant_of-self g c = record { opened = each_same (IsGateOf c.args.self.now.links.items c.args.self.now.ops) c.args.self.now.gates.items c.reserve.new.self.items c.reserve.ensures.items c.args.self.now.opened }

pub new-requires : goal.new-requires
new-requires g c =
    let key : Opening g.row.N.Denot g.row.T.Denot g.row.O.Denot = record { number = c.args.region.number; values = c.args.values; ops = c.of.result; pieces = c.of-2.result; links = c.of-3.result } in
    first_fits g.N.Machine g.O.Ops.meaning key c.args.self.now.links.items c.args.self.now.ops c.args.values c.args.region refl refl c.of.ensures (ap (λ v. v.items) c.of-2.ensures) (ap (λ v. v.items) c.of-3.ensures) c.requires.ends c.requires.stands

pub invariant_of-self-in-Break-1 : goal.invariant_of-self-in-Break-1
invariant_of-self-in-Break-1 g c = record { opened = each_same (IsGateOf c.args.self.now.links.items c.args.self.now.ops) c.args.self.now.gates.items c.reserve.new.self.items c.reserve.ensures.items c.args.self.now.opened }

pub returns-in_err-gate-clause-err : goal.returns-in_err-gate-clause-err
returns-in_err-gate-clause-err g c =
    let p = err_from_is_err_and c.from_residual.result c.from_residual.ensures.1 in
    rw (p.1, p.2) (c.in_err-gate.ensures.err, c.reserve.ensures.items)

pub push_reserved-requires : goal.push_reserved-requires
push_reserved-requires g c = room_for c.reserve.result _ _ c.reserve.ensures.ok (sym c.is_err.ensures.value ∙ c.if-is_err.false)

pub invariant_of-self-2 : goal.invariant_of-self-2
invariant_of-self-2 g c =
    let key : Opening g.row.N.Denot g.row.T.Denot g.row.O.Denot = record { number = c.args.region.number; values = c.args.values; ops = c.of.result; pieces = c.of-2.result; links = c.of-3.result } in
    let old = c.args.self.now.gates.items in
    let gate = c.in_ok-gate.gate in
    let links = c.args.self.now.links.items in
    let ops = c.args.self.now.ops in
    let one = opened_by links ops gate key c.in_ok-gate.ensures.ok.0 (ap (λ v. v.items) c.of-3.ensures) c.of.ensures in
    record { opened = each_same (IsGateOf links ops) (old ++ gate ∷ []) c.push_reserved.new.self.items (pushed_onto c.args.self.now.gates.items c.reserve.new.self.items c.push_reserved.new.self.items gate c.push_reserved.ensures.items c.reserve.ensures.items) (each_pushed (IsGateOf links ops) old gate c.args.self.now.opened one) }

pub returns-clause-ok : goal.returns-clause-ok
returns-clause-ok g c =
    let gate = c.in_ok-gate.gate in
    let h = c.in_ok-gate.ensures.ok in
    let added = pushed_onto c.args.self.now.gates.items c.reserve.new.self.items c.push_reserved.new.self.items gate c.push_reserved.ensures.items c.reserve.ensures.items in
    (gate, added, (h.1, h.2 ∙ ap founder (sym h.0), ap (λ (k : Opening _ _ _). k.number) h.0))
