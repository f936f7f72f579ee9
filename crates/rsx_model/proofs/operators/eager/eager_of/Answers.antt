use Rattle.std.proofs.Common.{◌≡◌, ◌+◌, ◌<◌, ◌≤◌, ◌∷◌, drop, length, option_map, slice_index_or, take, ap, ◌∙◌, arith, rules}
use Rattle.std.proofs.lemmas.List.{drop_more, take_rest}
use Rattle.rsx_types.specs.Stream.{items_then}
use Rattle.rsx_values.specs.Eager.{failure_here}
use Rattle.rsx_model.proofs.Overtaking.{all_taken, failure_taken, item_taken, no_item, no_other}
use Rattle.rsx_model.proofs.operators.eager.eager_of.Goals as goal

pub loop-taken-preserved : goal.loop-taken-preserved
loop-taken-preserved g c =
    let cs = c.args.choices.now in
    let k = c.loop-taken.taken in
    let v = c.loop-taken.value in
    let next : drop k cs ≡ 0 ∷ drop (k + 1) cs = drop_more cs k 0 c.loop-taken-test.true ∙ ap (λ n. n ∷ drop (k + 1) cs) c.in-0.is in
    let all : c.items.result.now ≡ v.items = c.items.ensures in
    let within : k < length v.items = omega (arith, ap length all, c.if-taken-items.false) in
    item_taken cs k v.items v.ending _ next within c.loop-taken.invariant

pub returns-then-taken-items : goal.returns-then-taken-items
returns-then-taken-items g c =
    let cs = c.args.choices.now in
    let k = c.loop-taken.taken in
    let v = c.loop-taken.value in
    let next : drop k cs ≡ 0 ∷ drop (k + 1) cs = drop_more cs k 0 c.loop-taken-test.true ∙ ap (λ n. n ∷ drop (k + 1) cs) c.in-0.is in
    let all : c.items.result.now ≡ v.items = c.items.ensures in
    let over : length v.items ≤ k = omega (arith, ap length all, c.if-taken-items.true) in
    no_item cs k v.items v.ending _ next over c.loop-taken.invariant

pub returns-in-1 : goal.returns-in-1
returns-in-1 g c =
    let cs = c.args.choices.now in
    let k = c.loop-taken.taken in
    let v = c.loop-taken.value in
    let next : drop k cs ≡ 1 ∷ drop (k + 1) cs = drop_more cs k 0 c.loop-taken-test.true ∙ ap (λ n. n ∷ drop (k + 1) cs) c.in-1.is in
    c.failed_behind.ensures ∙ ap (λ l. option_map (items_then (take k v.items)) (failure_here v.ending l)) (take_rest cs (k + 1)) ∙ failure_taken cs k v.items v.ending _ next c.loop-taken.invariant

pub returns-in_default : goal.returns-in_default
returns-in_default g c =
    let cs = c.args.choices.now in
    let k = c.loop-taken.taken in
    let v = c.loop-taken.value in
    let next : drop k cs ≡ slice_index_or cs k 0 ∷ drop (k + 1) cs = drop_more cs k 0 c.loop-taken-test.true in
    no_other cs k (slice_index_or cs k 0) v.items v.ending _ next (search rules) (search rules) c.loop-taken.invariant

pub returns : goal.returns
returns g c =
    let cs = c.args.choices.now in
    let k = c.loop-taken.taken in
    let v = c.loop-taken.value in
    let over : length cs ≤ k = omega arith in
    all_taken cs k v.items v.ending _ over c.loop-taken.invariant
