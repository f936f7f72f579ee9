use Rattle.std.proofs.Common.{◌≡◌, ◌∙◌, Ok, ap, length, arith}
use Rattle.std.specs.Vec.Iter.{into_iter_items}
use Rattle.std.proofs.lemmas.List.{nil_from_length}
use Rattle.rsx_types.specs.Plain.{filtered_items}
use Rattle.rsx_model.proofs.Steps.{item_out, none_out, all_out, filtered_item}
use Rattle.rsx_model.proofs.operators.plain.filter_items.Goals as goal

pub loop-x-preserved-in-Continue-1 : goal.loop-x-preserved-in-Continue-1
loop-x-preserved-in-Continue-1 g c =
    let p = (g.O.Ops.meaning c.args.ops.now).tested c.args.f in
    let kept = filtered_item p c.in-Some.x _ (into_iter_items c.next.new.self) c.args.ending (c.in-Ok-true.ensures.answer ∙ ap Ok c.in-Ok-true.field-0-test) in
    item_out _ _ c.in-Some.x _ _ _ c.loop-x.invariant (ap (λ l. filtered_items p l c.args.ending) c.in-Some.ensures.steps.0 ∙ kept) c.in_ok-push-in-Ok-true.ensures.items

pub loop-x-preserved : goal.loop-x-preserved
loop-x-preserved g c =
    let p = (g.O.Ops.meaning c.args.ops.now).tested c.args.f in
    let dropped = filtered_item p c.in-Some.x _ (into_iter_items c.next.new.self) c.args.ending (c.in-Ok-false.ensures.answer ∙ ap Ok c.in-Ok-false.field-0-test) in
    none_out _ _ _ _ c.loop-x.invariant (ap (λ l. filtered_items p l c.args.ending) c.in-Some.ensures.steps.0 ∙ dropped)

pub returns-in-Err-Code : goal.returns-in-Err-Code
returns-in-Err-Code g c =
    let p = (g.O.Ops.meaning c.args.ops.now).tested c.args.f in
    let fault = rw c.in-Err-Code.field-0-is at c.in-Err-Code.ensures in
    let ending = rw c.in-Err-Code.field-0-is at c.cut_by.ensures.ending in
    let cut = filtered_item p c.in-Some.x _ (into_iter_items c.next.new.self) c.args.ending fault.answer in
    all_out _ _ _ _ _ c.loop-x.invariant (ap (λ l. filtered_items p l c.args.ending) c.in-Some.ensures.steps.0 ∙ cut) c.cut_by.ensures.items ending

pub returns : goal.returns
returns g c =
    let p = (g.O.Ops.meaning c.args.ops.now).tested c.args.f in
    let none : length (into_iter_items c.loop-x.x-iterator) ≡ 0 = omega (arith, c.in-None.ensures.steps.0) in
    all_out _ _ _ _ _ c.loop-x.invariant (ap (λ l. filtered_items p l c.args.ending) (nil_from_length _ none)) c.new.ensures.items c.new.ensures.ending
