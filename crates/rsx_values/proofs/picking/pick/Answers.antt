use Rattle.std.proofs.Common.{rules, sym, ◌≡◌, ◌≤◌, ◌+◌, ◌∷◌, length, slice_index_or, drop, Some, None, false, arith}
use Rattle.std.proofs.lemmas.List.{drop_more}
use Rattle.rsx_values.specs.Pick.{next_of}
use Rattle.rsx_values.proofs.Places.{choice_kept, choice_missing, choice_late, all_chosen, failed_chosen}
use Rattle.rsx_values.proofs.picking.pick.Goals as goal

pub returns-then-failed : goal.returns-then-failed
returns-then-failed g c =
    let i = c.loop-choice.choice-index in
    let x = slice_index_or c.args.choices.now i 0 in
    let more : drop i c.args.choices.now ≡ x ∷ drop (i + 1) c.args.choices.now = drop_more c.args.choices.now i 0 c.loop-choice-test.true in
    sym (choice_late c.args.choices.now i x c.loop-choice.inputs.items c.loop-choice.out.items _ more (rw c.if-failed.true at c.loop-choice.invariant))

pub loop-choice-preserved : goal.loop-choice-preserved
loop-choice-preserved g c =
    let i = c.loop-choice.choice-index in
    let x = slice_index_or c.args.choices.now i 0 in
    let more : drop i c.args.choices.now ≡ x ∷ drop (i + 1) c.args.choices.now = drop_more c.args.choices.now i 0 c.loop-choice-test.true in
    let going : c.loop-choice.failed ≡ false = search rules in
    let next : next_of x c.loop-choice.inputs.items ≡ Some (c.in-Some.signal, c.take_next.new.inputs.items) = c.in-Some.ensures in
    rw (c.in_ok-push-in-Some.ensures.items, c.fails-failed.ensures)
    (choice_kept c.args.choices.now i x c.loop-choice.inputs.items c.take_next.new.inputs.items c.in-Some.signal c.loop-choice.out.items _ more next (rw going at c.loop-choice.invariant))

pub returns-in-None : goal.returns-in-None
returns-in-None g c =
    let i = c.loop-choice.choice-index in
    let x = slice_index_or c.args.choices.now i 0 in
    let more : drop i c.args.choices.now ≡ x ∷ drop (i + 1) c.args.choices.now = drop_more c.args.choices.now i 0 c.loop-choice-test.true in
    let going : c.loop-choice.failed ≡ false = search rules in
    let next : next_of x c.loop-choice.inputs.items ≡ None = c.in-None.ensures in
    sym (choice_missing c.args.choices.now i x c.loop-choice.inputs.items c.loop-choice.out.items _ more next (rw going at c.loop-choice.invariant))

pub returns-then-failed-2 : goal.returns-then-failed-2
returns-then-failed-2 g c =
    let over : length c.args.choices.now ≤ c.loop-choice.choice-index = omega arith in
    sym (failed_chosen c.args.choices.now c.loop-choice.choice-index c.loop-choice.inputs.items c.loop-choice.out.items _ over (rw c.if-failed-2.true at c.loop-choice.invariant))

pub returns : goal.returns
returns g c =
    let over : length c.args.choices.now ≤ c.loop-choice.choice-index = omega arith in
    let going : c.loop-choice.failed ≡ false = search rules in
    rw c.in_ok-drain_all.ensures
    (sym (all_chosen c.args.choices.now c.loop-choice.choice-index c.loop-choice.inputs.items c.loop-choice.out.items _ over (rw going at c.loop-choice.invariant)))
