use Rattle.std.proofs.Common.{◌<◌, ◌≤◌, ◌+◌, ◌++◌, ◌∷◌, [], length, drop, get_or, ap, ◌∙◌, arith}
use Rattle.rsx_values.specs.Zip.{items_of}
use Rattle.rsx_values.specs.Rows.{at_each}
use Rattle.rsx_values.proofs.JoiningPlaces.{row_pushed, row_passed}
use Rattle.rsx_values.proofs.rows.VecStreamValueZip.row_items.Goals as goal

pub loop-value-preserved-in_default : goal.loop-value-preserved-in_default
loop-value-preserved-in_default g c =
    let vs = c.args.self.now.items in
    let same = c.deref-value-items.ensures.value in
    let within : c.loop-value.value-index < length vs = omega (arith, c.loop-value-test.true, ap length same) in
    let is = c.value-item.is ∙ ap (λ l. get_or l c.loop-value.value-index c.value-item.result) same in
    let lookup = rw c.in_default.is at c.get.ensures.lookup in
    let over : length c.value-item.result.items ≤ c.args.at = omega (arith, lookup.3, ap length c.items.ensures) in
    row_passed vs c.loop-value.value-index c.args.at c.value-item.result c.loop-value.items.items (at_each c.args.at (items_of vs)) within is over c.loop-value.invariant

pub loop-value-preserved : goal.loop-value-preserved
loop-value-preserved g c =
    let vs = c.args.self.now.items in
    let same = c.deref-value-items.ensures.value in
    let x = c.in-Some.item.now in
    let within : c.loop-value.value-index < length vs = omega (arith, c.loop-value-test.true, ap length same) in
    let is = c.value-item.is ∙ ap (λ l. get_or l c.loop-value.value-index c.value-item.result) same in
    let lookup = c.in-Some.ensures.lookup in
    let there : c.args.at < length c.value-item.result.items = omega (arith, (lookup.3).0, ap length c.items.ensures) in
    let item = lookup.1 ∙ ap (λ l. get_or l c.args.at x) c.items.ensures in
    let pushed = c.in_ok-push.ensures.items ∙ ap (λ y. c.loop-value.items.items ++ y ∷ []) c.in_ok-copy.ensures.answer in
    ap (λ l. l ++ at_each c.args.at (items_of (drop (c.loop-value.value-index + 1) vs))) pushed
    ∙ row_pushed vs c.loop-value.value-index c.args.at c.value-item.result x c.loop-value.items.items (at_each c.args.at (items_of vs)) within is there item c.loop-value.invariant
