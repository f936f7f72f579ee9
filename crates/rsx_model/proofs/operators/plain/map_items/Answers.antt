use Rattle.std.proofs.Common.{◌∙◌, ◌+◌, drop}
use Rattle.std.proofs.lemmas.List.{at_drop_all}
use Rattle.rsx_types.specs.Plain.{mapped_items}
use Rattle.rsx_model.proofs.Steps.{item_out, all_out, item_at, mapped_item}
use Rattle.rsx_model.proofs.operators.plain.map_items.Goals as goal

pub loop-x-preserved : goal.loop-x-preserved
loop-x-preserved g c =
    let f = (g.O.Ops.meaning c.args.ops.now).mapped c.args.f in
    let i = c.loop-x.x-index in
    let xs = c.args.items.now in
    let here = item_at (λ l. mapped_items f l c.args.ending) xs i c.x-item.result c.loop-x-test.true c.x-item.is in
    item_out _ _ c.in-Ok.y _ _ _ c.loop-x.invariant (here ∙ mapped_item f c.x-item.result _ (drop (i + 1) xs) c.args.ending c.in-Ok.ensures.answer) c.in_ok-push-in-Ok.ensures.items

pub returns-in-Err-Code : goal.returns-in-Err-Code
returns-in-Err-Code g c =
    let f = (g.O.Ops.meaning c.args.ops.now).mapped c.args.f in
    let i = c.loop-x.x-index in
    let xs = c.args.items.now in
    let fault = rw c.in-Err-Code.field-0-is at c.in-Err-Code.ensures in
    let ending = rw c.in-Err-Code.field-0-is at c.cut_by.ensures.ending in
    let here = item_at (λ l. mapped_items f l c.args.ending) xs i c.x-item.result c.loop-x-test.true c.x-item.is in
    all_out _ _ _ _ _ c.loop-x.invariant (here ∙ mapped_item f c.x-item.result _ (drop (i + 1) xs) c.args.ending fault.answer) c.cut_by.ensures.items ending

pub returns : goal.returns
returns g c =
    let f = (g.O.Ops.meaning c.args.ops.now).mapped c.args.f in
    let none = at_drop_all (λ l. mapped_items f l c.args.ending) c.args.items.now c.loop-x.x-index c.loop-x-test.false in
    all_out _ _ _ _ _ c.loop-x.invariant none c.new.ensures.items c.new.ensures.ending
