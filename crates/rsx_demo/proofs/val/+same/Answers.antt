use Rattle.std.proofs.Common.{rules, ◌≡◌, ◌∙◌, sym, ap, refl, length, Vec, Global}
use Rattle.rsx_demo.specs.declared.val.Val.{Val}
use Rattle.rsx_demo.proofs.Lists.{items_of_one, differ_at}
use Rattle.rsx_demo.proofs.val.+same.Goals as goal

pub is_same_list-returns-then-xs_items-ys_items-clause-no : goal.is_same_list-returns-then-xs_items-ys_items-clause-no
is_same_list-returns-then-xs_items-ys_items-clause-no t c _ same =
    let lists = items_of_one c.xs.inside.items.value.items c.ys.inside.items.value.items _ _ c.xs.view_is c.ys.view_is same in
    let one = c.as_slice-xs_items.ensures.value ∙ ap (λ (v : Vec Val Global). v.items) c.deref.ensures in
    let other = c.as_slice-ys_items.ensures.value ∙ ap (λ (v : Vec Val Global). v.items) c.deref-2.ensures in
    let slices : c.as_slice-xs_items.result.now ≡ c.as_slice-ys_items.result.now = one ∙ lists ∙ sym other in
    absurd (c.if-xs_items-ys_items.true (ap length slices))

pub is_same_list-returns-then-not-is_same_val-clause-no : goal.is_same_list-returns-then-not-is_same_val-clause-no
is_same_list-returns-then-not-is_same_val-clause-no t c _ same =
    let lists = items_of_one c.xs.inside.items.value.items c.ys.inside.items.value.items _ _ c.xs.view_is c.ys.view_is same in
    let one = c.as_slice-xs_items.ensures.value ∙ ap (λ (v : Vec Val Global). v.items) c.deref.ensures in
    let other = c.as_slice-ys_items.ensures.value ∙ ap (λ (v : Vec Val Global). v.items) c.deref-2.ensures in
    let slices : c.as_slice-xs_items.result.now ≡ c.as_slice-ys_items.result.now = one ∙ lists ∙ sym other in
    differ_at _ _ c.loop-i.i _ _ c.loop-i-test.true c.index-xs_items-i.is c.index-ys_items-i.is (λ e. c.if-not-is_same_val.ensures.no refl e) slices

pub is_same_val-returns-in-Int-Int-clause-yes : goal.is_same_val-returns-in-Int-Int-clause-yes
is_same_val-returns-in-Int-Int-clause-yes t c = search rules
