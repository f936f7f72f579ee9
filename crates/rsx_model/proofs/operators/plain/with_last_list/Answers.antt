use Rattle.std.proofs.Common.{◌≡◌, ◌<◌, ◌∙◌, ◌++◌, ◌∷◌, [], ap, refl, length, arith}
use Rattle.rsx_types.specs.declared.signal.Ending.TheVariants.{Done}
use Rattle.rsx_types.specs.Plain.{last_list}
use Rattle.rsx_model.proofs.Steps.{item_out, all_out, last_of_none, last_of_some}
use Rattle.rsx_model.proofs.operators.plain.with_last_list.Goals as goal

pub returns-then-is_empty : goal.returns-then-is_empty
returns-then-is_empty g c =
    let list = (g.O.Ops.meaning c.args.ops.now).list_of in
    let none : length c.args.started.items ≡ 0 = grind (arith, c.if-is_empty.ensures) in
    all_out c.args.lists.items _ _ _ _ refl (last_of_none list c.args.started.items c.args.ending none) c.new.ensures.items c.new.ensures.ending

pub returns-in-Done : goal.returns-in-Done
returns-in-Done g c =
    let list = (g.O.Ops.meaning c.args.ops.now).list_of in
    let started = c.args.started.items in
    let some : 0 < length started = grind (arith, c.if-is_empty.ensures) in
    let last = ap (last_list list started) c.in-Done.is ∙ last_of_some list started some in
    let answer = c.in_ok-list-in-Done.ensures.answer ∙ ap list c.as_slice.ensures.value in
    let out = item_out c.args.lists.items _ (list started) _ _ _ refl last (c.in_ok-push-in-Done.ensures.items ∙ ap (λ y. c.args.lists.items ++ y ∷ []) answer) in
    all_out _ _ _ _ Done out refl c.new-in-Done.ensures.items (c.new-in-Done.ensures.ending ∙ c.in-Done.is)
