use Rattle.std.proofs.Common.{◌∙◌, ◌+◌, ap, refl, drop}
use Rattle.std.proofs.lemmas.List.{at_drop_all}
use Rattle.rsx_types.specs.Stream.{item_then}
use Rattle.rsx_types.specs.Plain.{scanned_items}
use Rattle.rsx_model.proofs.Steps.{item_out, all_out, item_at, scanned_item}
use Rattle.rsx_model.proofs.operators.plain.scan_items.Goals as goal

pub loop-x-preserved : goal.loop-x-preserved
loop-x-preserved g c =
    let f = (g.O.Ops.meaning c.args.ops.now).folded c.args.f in
    let a = c.loop-x.latest in
    let i = c.loop-x.x-index in
    let xs = c.args.items.now in
    let here = item_at (λ l. scanned_items f a l c.args.ending) xs i c.x-item.result c.loop-x-test.true c.x-item.is in
    let next = here ∙ scanned_item f a c.x-item.result _ (drop (i + 1) xs) c.args.ending c.in-Ok.ensures.answer in
    item_out _ _ a _ _ _ c.loop-x.invariant (ap (item_then a) next) c.in_ok-push-in-Ok.ensures.items

pub returns-in-Err-Code : goal.returns-in-Err-Code
returns-in-Err-Code g c =
    let f = (g.O.Ops.meaning c.args.ops.now).folded c.args.f in
    let a = c.loop-x.latest in
    let i = c.loop-x.x-index in
    let xs = c.args.items.now in
    let fault = rw c.in-Err-Code.field-0-is at c.in-Err-Code.ensures in
    let ending = rw c.in-Err-Code.field-0-is at c.cut_by.ensures.ending in
    let here = item_at (λ l. scanned_items f a l c.args.ending) xs i c.x-item.result c.loop-x-test.true c.x-item.is in
    let cut = here ∙ scanned_item f a c.x-item.result _ (drop (i + 1) xs) c.args.ending fault.answer in
    let out = item_out _ _ a _ _ _ c.loop-x.invariant (ap (item_then a) cut) c.in_ok-push-in-Err-Code.ensures.items in
    all_out _ _ _ _ _ out refl c.cut_by.ensures.items ending

pub returns : goal.returns
returns g c =
    let f = (g.O.Ops.meaning c.args.ops.now).folded c.args.f in
    let a = c.loop-x.latest in
    let none = at_drop_all (λ l. scanned_items f a l c.args.ending) c.args.items.now c.loop-x.x-index c.loop-x-test.false in
    let out = item_out _ _ a _ _ _ c.loop-x.invariant (ap (item_then a) none) c.in_ok-push.ensures.items in
    all_out _ _ _ _ _ out refl c.new.ensures.items c.new.ensures.ending
