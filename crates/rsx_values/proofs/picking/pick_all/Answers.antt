use Rattle.std.proofs.Common.{sym, ◌≡◌, ◌≤◌, ◌+◌, ◌∷◌, length, slice_index_or, drop, Some, None, arith}
use Rattle.std.proofs.lemmas.List.{drop_more}
use Rattle.rsx_values.specs.Pick.{next_of}
use Rattle.rsx_values.proofs.PlacesOfAll.{all_chosen, choice_kept, choice_missing}
use Rattle.rsx_values.proofs.picking.pick_all.Goals as goal

pub loop-choice-preserved : goal.loop-choice-preserved
loop-choice-preserved g c =
    let i = c.loop-choice.choice-index in
    let x = slice_index_or c.args.choices.now i 0 in
    let more : drop i c.args.choices.now ≡ x ∷ drop (i + 1) c.args.choices.now = drop_more c.args.choices.now i 0 c.loop-choice-test.true in
    let next : next_of x c.loop-choice.inputs.items ≡ Some (c.in-Some.signal, c.take_next.new.inputs.items) = c.in-Some.ensures in
    rw c.in_ok-push-in-Some.ensures.items
    (choice_kept c.args.choices.now i x c.loop-choice.inputs.items c.take_next.new.inputs.items c.in-Some.signal c.loop-choice.out.items _ more next c.loop-choice.invariant)

pub returns-in-None : goal.returns-in-None
returns-in-None g c =
    let i = c.loop-choice.choice-index in
    let x = slice_index_or c.args.choices.now i 0 in
    let more : drop i c.args.choices.now ≡ x ∷ drop (i + 1) c.args.choices.now = drop_more c.args.choices.now i 0 c.loop-choice-test.true in
    let next : next_of x c.loop-choice.inputs.items ≡ None = c.in-None.ensures in
    sym (choice_missing c.args.choices.now i x c.loop-choice.inputs.items c.loop-choice.out.items _ more next c.loop-choice.invariant)

pub returns : goal.returns
returns g c =
    let over : length c.args.choices.now ≤ c.loop-choice.choice-index = omega arith in
    rw c.in_ok-take_each.ensures
    (sym (all_chosen c.args.choices.now c.loop-choice.choice-index c.loop-choice.inputs.items c.loop-choice.out.items _ over c.loop-choice.invariant))
