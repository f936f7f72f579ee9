use Rattle.std.proofs.Common.{◌≡◌, ◌∙◌, ◌∷◌, [], ◌+◌, length, Err, sym, ap, arith, rules}
use Rattle.rsx_model.specs.Eval.{environment, meant}
use Rattle.rsx_model.specs.Shape.{nodes, leaves, listed_below}
use Rattle.rsx_model.proofs.Unfold.{leaves_le_nodes}
use Rattle.rsx_model.proofs.Values.{ready, ready_one, below_gives, next_input, so_far_none, so_far_more, so_far_stops, so_far_all, stopped}
use Rattle.rsx_model.proofs.evaluate.+value.Goals as goal
use Rattle.rsx_model.proofs.evaluate.+value.Goals.{value_of-in-One, value_of-in-Inputs}

pub value_of-value_of-value-requires-clause-sound : goal.value_of-value_of-value-requires-clause-sound
value_of-value_of-value-requires-clause-sound g t c κs within =
    (ready_one (length c.args.hubs.now) (length c.args.notes.now) (length c.args.joins.now) c.args.expr.now c.in-One.input.now c.args.at c.args.leaf (sym c.below_of.ensures ∙ ap listed_below c.in-One.is) c.requires.sound c.requires.small c.requires.noted c.requires.joined).sound

pub value_of-value_of-value-requires-clause-small : goal.value_of-value_of-value-requires-clause-small
value_of-value_of-value-requires-clause-small g t c κs within =
    (ready_one (length c.args.hubs.now) (length c.args.notes.now) (length c.args.joins.now) c.args.expr.now c.in-One.input.now c.args.at c.args.leaf (sym c.below_of.ensures ∙ ap listed_below c.in-One.is) c.requires.sound c.requires.small c.requires.noted c.requires.joined).small

pub value_of-value_of-value-requires-clause-noted : goal.value_of-value_of-value-requires-clause-noted
value_of-value_of-value-requires-clause-noted g t c κs within =
    (ready_one (length c.args.hubs.now) (length c.args.notes.now) (length c.args.joins.now) c.args.expr.now c.in-One.input.now c.args.at c.args.leaf (sym c.below_of.ensures ∙ ap listed_below c.in-One.is) c.requires.sound c.requires.small c.requires.noted c.requires.joined).noted

pub value_of-value_of-value-requires-clause-joined : goal.value_of-value_of-value-requires-clause-joined
value_of-value_of-value-requires-clause-joined g t c κs within =
    (ready_one (length c.args.hubs.now) (length c.args.notes.now) (length c.args.joins.now) c.args.expr.now c.in-One.input.now c.args.at c.args.leaf (sym c.below_of.ensures ∙ ap listed_below c.in-One.is) c.requires.sound c.requires.small c.requires.noted c.requires.joined).joined

pub value_of-values_of-values-requires-clause-sound : goal.value_of-values_of-values-requires-clause-sound
value_of-values_of-values-requires-clause-sound g t c κs within =
    (ready (length c.args.hubs.now) (length c.args.notes.now) (length c.args.joins.now) c.args.expr.now c.in-Inputs.inputs.now c.args.at c.args.leaf (sym c.below_of.ensures ∙ ap listed_below c.in-Inputs.is) c.requires.sound c.requires.small c.requires.noted c.requires.joined).sound

pub value_of-values_of-values-requires-clause-small : goal.value_of-values_of-values-requires-clause-small
value_of-values_of-values-requires-clause-small g t c κs within =
    (ready (length c.args.hubs.now) (length c.args.notes.now) (length c.args.joins.now) c.args.expr.now c.in-Inputs.inputs.now c.args.at c.args.leaf (sym c.below_of.ensures ∙ ap listed_below c.in-Inputs.is) c.requires.sound c.requires.small c.requires.noted c.requires.joined).small

pub value_of-values_of-values-requires-clause-noted : goal.value_of-values_of-values-requires-clause-noted
value_of-values_of-values-requires-clause-noted g t c κs within =
    (ready (length c.args.hubs.now) (length c.args.notes.now) (length c.args.joins.now) c.args.expr.now c.in-Inputs.inputs.now c.args.at c.args.leaf (sym c.below_of.ensures ∙ ap listed_below c.in-Inputs.is) c.requires.sound c.requires.small c.requires.noted c.requires.joined).noted

pub value_of-values_of-values-requires-clause-joined : goal.value_of-values_of-values-requires-clause-joined
value_of-values_of-values-requires-clause-joined g t c κs within =
    (ready (length c.args.hubs.now) (length c.args.notes.now) (length c.args.joins.now) c.args.expr.now c.in-Inputs.inputs.now c.args.at c.args.leaf (sym c.below_of.ensures ∙ ap listed_below c.in-Inputs.is) c.requires.sound c.requires.small c.requires.noted c.requires.joined).joined

pub value_of-node_value_of-requires-clause-below : goal.value_of-node_value_of-requires-clause-below
value_of-node_value_of-requires-clause-below g t c κs =
    let w = environment (g.O.Ops.meaning c.args.ops.now) c.args.hubs.now c.args.joins.now c.args.notes.now in
    elim c.match-below_of.branch [
      | value_of-in-One b ↦
          let x = b.in-One.input.now in
          let given = below_gives w c.args.expr.now (x ∷ []) (c.args.at + 1) c.args.leaf b.values_of_one-values.result (sym (ap listed_below b.in-One.is) ∙ c.below_of.ensures) (b.values_of_one-values.ensures ((meant w x).value (c.args.at + 1) c.args.leaf) b.value_of-value.ensures) in
          λ within. rw b.values-is given
      | value_of-in-Inputs b ↦
          let given = below_gives w c.args.expr.now b.in-Inputs.inputs.now (c.args.at + 1) c.args.leaf b.values_of-values.result (sym (ap listed_below b.in-Inputs.is) ∙ c.below_of.ensures) b.values_of-values.ensures in
          λ within. rw b.values-is given
    ]

pub values_of-value_of-requires-clause-sound : goal.values_of-value_of-requires-clause-sound
values_of-value_of-requires-clause-sound g t c κs within =
    let w = environment (g.O.Ops.meaning c.args.ops.now) c.args.hubs.now c.args.joins.now c.args.notes.now in
    let n = next_input w c.args.inputs.now c.args.at c.args.leaf c.loop-input.input-index c.loop-input.values.items c.loop-input.next c.loop-input.next_leaf c.input-item.result c.loop-input.invariant c.loop-input-test.true c.input-item.is in
    n.sound

pub values_of-value_of-requires-clause-small : goal.values_of-value_of-requires-clause-small
values_of-value_of-requires-clause-small g t c κs within =
    let w = environment (g.O.Ops.meaning c.args.ops.now) c.args.hubs.now c.args.joins.now c.args.notes.now in
    let n = next_input w c.args.inputs.now c.args.at c.args.leaf c.loop-input.input-index c.loop-input.values.items c.loop-input.next c.loop-input.next_leaf c.input-item.result c.loop-input.invariant c.loop-input-test.true c.input-item.is in
    omega (arith, n.few, c.loop-input.invariant.few, c.requires.small)

pub values_of-returns-in_err-value : goal.values_of-returns-in_err-value
values_of-returns-in_err-value g t c =
    let w = environment (g.O.Ops.meaning c.args.ops.now) c.args.hubs.now c.args.joins.now c.args.notes.now in
    let same : c.from_residual.result ≡ Err c.in_err-value.field-0.0 = search rules in
    rw same (stopped c.in_err-value.field-0.0 _ _ c.in_err-value.ensures (λ none. so_far_stops w c.args.inputs.now c.args.at c.args.leaf c.loop-input.input-index c.loop-input.values.items c.loop-input.next c.loop-input.next_leaf c.input-item.result c.loop-input.invariant c.loop-input-test.true c.input-item.is none))

pub values_of-loop-input-preserved : goal.values_of-loop-input-preserved
values_of-loop-input-preserved g t c =
    let w = environment (g.O.Ops.meaning c.args.ops.now) c.args.hubs.now c.args.joins.now c.args.notes.now in
    let e = c.input-item.result in
    let n = next_input w c.args.inputs.now c.args.at c.args.leaf c.loop-input.input-index c.loop-input.values.items c.loop-input.next c.loop-input.next_leaf c.input-item.result c.loop-input.invariant c.loop-input-test.true c.input-item.is in
    let more = so_far_more w c.args.inputs.now c.args.at c.args.leaf c.loop-input.input-index c.loop-input.values.items c.loop-input.next c.loop-input.next_leaf c.input-item.result c.in_ok-value.value c.loop-input.invariant c.loop-input-test.true c.input-item.is c.in_ok-value.ensures in
    let counted : c.nodes_of.result ≡ nodes e = omega (arith, n.few, c.loop-input.invariant.few, c.requires.small, c.nodes_of.ensures) in
    let joined : c.leaves_of.result ≡ leaves e = omega (arith, n.few, c.loop-input.invariant.few, c.requires.small, leaves_le_nodes e, c.leaves_of.ensures) in
    rw (c.in_ok-push.ensures.items, counted, joined) more

pub values_of-value_of-requires-clause-noted : goal.values_of-value_of-requires-clause-noted
values_of-value_of-requires-clause-noted g t c κs within =
    let n = next_input (environment (g.O.Ops.meaning c.args.ops.now) c.args.hubs.now c.args.joins.now c.args.notes.now) c.args.inputs.now c.args.at c.args.leaf c.loop-input.input-index c.loop-input.values.items c.loop-input.next c.loop-input.next_leaf c.input-item.result c.loop-input.invariant c.loop-input-test.true c.input-item.is in
    omega (arith, n.few, c.loop-input.invariant.nodes_left, c.requires.noted)

pub values_of-value_of-requires-clause-joined : goal.values_of-value_of-requires-clause-joined
values_of-value_of-requires-clause-joined g t c κs within =
    let n = next_input (environment (g.O.Ops.meaning c.args.ops.now) c.args.hubs.now c.args.joins.now c.args.notes.now) c.args.inputs.now c.args.at c.args.leaf c.loop-input.input-index c.loop-input.values.items c.loop-input.next c.loop-input.next_leaf c.input-item.result c.loop-input.invariant c.loop-input-test.true c.input-item.is in
    omega (arith, n.few_leaves, c.loop-input.invariant.leaves_left, c.requires.joined)

pub values_of-loop-input-init : goal.values_of-loop-input-init
values_of-loop-input-init g t c =
    let w = environment (g.O.Ops.meaning c.args.ops.now) c.args.hubs.now c.args.joins.now c.args.notes.now in
    rw c.new-values.ensures.items (so_far_none w c.args.inputs.now c.args.at c.args.leaf c.requires.sound)

pub values_of-returns : goal.values_of-returns
values_of-returns g t c =
    let w = environment (g.O.Ops.meaning c.args.ops.now) c.args.hubs.now c.args.joins.now c.args.notes.now in
    so_far_all w c.args.inputs.now c.args.at c.args.leaf c.loop-input.input-index c.loop-input.values.items c.loop-input.next c.loop-input.next_leaf c.loop-input.invariant c.loop-input-test.false
