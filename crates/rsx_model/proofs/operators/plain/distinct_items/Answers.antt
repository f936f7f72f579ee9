use Rattle.std.proofs.Common.{◌≡◌, ◌∙◌, ap, length, arith}
use Rattle.std.specs.Vec.Iter.{into_iter_items}
use Rattle.std.proofs.lemmas.List.{nil_from_length}
use Rattle.rsx_types.specs.Plain.{distinct_items}
use Rattle.rsx_model.proofs.Steps.{all_out, distinct_fault}
use Rattle.rsx_model.proofs.operators.plain.distinct_items.Goals as goal

pub returns-in-Err-Code : goal.returns-in-Err-Code
returns-in-Err-Code g c =
    let key = (g.O.Ops.meaning c.args.ops.now).keyed c.args.f in
    let seen = c.loop-x.seen in
    let fault = rw c.in-Err-Code.field-0-is at c.in-Err-Code.ensures in
    let ending = rw c.in-Err-Code.field-0-is at c.cut_by.ensures.ending in
    let cut = distinct_fault key c.in-Some.x seen c.in-Err-Code.fault (into_iter_items c.next.new.self) c.args.ending fault.answer in
    all_out _ _ _ _ _ c.loop-x.invariant (ap (λ l. distinct_items key seen l c.args.ending) c.in-Some.ensures.steps.0 ∙ cut) c.cut_by.ensures.items ending

pub returns : goal.returns
returns g c =
    let key = (g.O.Ops.meaning c.args.ops.now).keyed c.args.f in
    let none : length (into_iter_items c.loop-x.x-iterator) ≡ 0 = omega (arith, c.in-None.ensures.steps.0) in
    all_out _ _ _ _ _ c.loop-x.invariant (ap (λ l. distinct_items key c.loop-x.seen l c.args.ending) (nil_from_length _ none)) c.new.ensures.items c.new.ensures.ending
