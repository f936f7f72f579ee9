use Rattle.std.proofs.Common.{◌∙◌, ◌+◌, map, drop, refl, sym, ap}
use Rattle.std.proofs.lemmas.List.{drop_all}
use Rattle.rsx_types.proofs.Lists.{drop_read}
use Rattle.rsx_model.specs.Check.{or_else, first_of, first_fault}
use Rattle.rsx_model.specs.Shape.{listed_below}
use Rattle.rsx_model.proofs.Inputs.{below_own, fault_inputs, fault_one}
use Rattle.rsx_model.proofs.check.+fault.Goals as goal

pub first_fault_of-returns-in-One : goal.first_fault_of-returns-in-One
first_fault_of-returns-in-One g t c =
    c.first_fault_of.ensures
    ∙ fault_one c.args.hubs c.args.expr.now c.in-One.input.now c.own_fault_of-own.result c.if-is_some.ensures c.own_fault_of-own.ensures (sym c.below_of.ensures ∙ ap listed_below c.in-One.is)

pub first_fault_of-returns-in-Inputs : goal.first_fault_of-returns-in-Inputs
first_fault_of-returns-in-Inputs g t c =
    c.first_fault_of_all.ensures
    ∙ fault_inputs c.args.hubs c.args.expr.now c.in-Inputs.inputs.now c.own_fault_of-own.result c.if-is_some.ensures c.own_fault_of-own.ensures (sym c.below_of.ensures ∙ ap listed_below c.in-Inputs.is)

pub first_fault_of_all-loop-input-init : goal.first_fault_of_all-loop-input-init
first_fault_of_all-loop-input-init g t c = refl

pub first_fault_of_all-returns : goal.first_fault_of_all-returns
first_fault_of_all-returns g t c =
    sym (ap (λ ys. first_of (map (first_fault c.args.hubs) ys)) (drop_all c.loop-input.input-index c.args.inputs.now c.loop-input-test.false)) ∙ c.loop-input.invariant

pub first_fault_of_all-loop-input-preserved : goal.first_fault_of_all-loop-input-preserved
first_fault_of_all-loop-input-preserved g t c =
    let cons = drop_read c.args.inputs.now c.loop-input.input-index c.input-item.result c.loop-input-test.true c.input-item.is in
    let rest = first_of (map (first_fault c.args.hubs) (drop (c.loop-input.input-index + 1) c.args.inputs.now)) in
    below_own c.first_fault_of-fault.result rest c.if-is_some.ensures
    ∙ ap (λ o. or_else o rest) c.first_fault_of-fault.ensures
    ∙ sym (ap (λ ys. first_of (map (first_fault c.args.hubs) ys)) cons)
    ∙ c.loop-input.invariant
