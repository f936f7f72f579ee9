use Rattle.std.proofs.Common.{◌+◌, ◌∙◌, refl, sym, ap, map, drop, nat_le}
use Rattle.std.proofs.lemmas.List.{drop_all}
use Rattle.rsx_types.proofs.Lists.{drop_read}
use Rattle.rsx_model.specs.Shape.{depth, max_of, listed_below}
use Rattle.rsx_model.proofs.Inputs.{too_deep, deep_enough, none_deep, below_depth, one_depth}
use Rattle.rsx_model.proofs.check.+depth.Goals as goal

pub is_within_depth-returns-in-One : goal.is_within_depth-returns-in-One
is_within_depth-returns-in-One g t c =
    c.is_within_depth.ensures ∙ one_depth c.args.expr.now c.in-One.input.now c.args.most (sym (ap listed_below c.in-One.is) ∙ c.below_of.ensures) c.if-most-eq0.false

pub is_within_depth-returns-in-Inputs : goal.is_within_depth-returns-in-Inputs
is_within_depth-returns-in-Inputs g t c =
    c.are_within_depth.ensures ∙ below_depth c.args.expr.now c.in-Inputs.inputs.now c.args.most (sym (ap listed_below c.in-Inputs.is) ∙ c.below_of.ensures) c.if-most-eq0.false

pub are_within_depth-returns-then-not-is_within_depth : goal.are_within_depth-returns-then-not-is_within_depth
are_within_depth-returns-then-not-is_within_depth g t c =
    let cons = drop_read c.args.inputs.now c.loop-input.input-index c.input-item.result c.loop-input-test.true c.input-item.is in
    too_deep (depth c.input-item.result) (max_of (map depth (drop (c.loop-input.input-index + 1) c.args.inputs.now))) c.args.most (sym c.is_within_depth.ensures ∙ c.if-not-is_within_depth.true)
    ∙ sym (ap (λ ys. nat_le (max_of (map depth ys)) c.args.most) cons)
    ∙ c.loop-input.invariant

pub are_within_depth-loop-input-init : goal.are_within_depth-loop-input-init
are_within_depth-loop-input-init g t c = refl

pub are_within_depth-loop-input-preserved : goal.are_within_depth-loop-input-preserved
are_within_depth-loop-input-preserved g t c =
    let cons = drop_read c.args.inputs.now c.loop-input.input-index c.input-item.result c.loop-input-test.true c.input-item.is in
    deep_enough (depth c.input-item.result) (max_of (map depth (drop (c.loop-input.input-index + 1) c.args.inputs.now))) c.args.most (sym c.is_within_depth.ensures ∙ c.if-not-is_within_depth.false)
    ∙ sym (ap (λ ys. nat_le (max_of (map depth ys)) c.args.most) cons)
    ∙ c.loop-input.invariant

pub are_within_depth-returns : goal.are_within_depth-returns
are_within_depth-returns g t c =
    none_deep c.args.most
    ∙ sym (ap (λ ys. nat_le (max_of (map depth ys)) c.args.most) (drop_all c.loop-input.input-index c.args.inputs.now c.loop-input-test.false))
    ∙ c.loop-input.invariant
