use Rattle.std.proofs.Common.{◌∷◌, [], ◌∙◌, sym, ap, arith}
use Rattle.rsx_types.proofs.Lists.{drop_read}
use Rattle.rsx_model.specs.Shape.{leaves, listed_below}
use Rattle.rsx_model.proofs.Inputs.{sum_front, sum_none, below_leaves}
use Rattle.rsx_model.proofs.check.+leaves.Goals as goal
use Rattle.rsx_model.proofs.check.+leaves.Goals.{leaves_of-in-One, leaves_of-in-Inputs}

pub leaves_of-returns : goal.leaves_of-returns
leaves_of-returns g t c = elim c.match-below_of.branch [
  | leaves_of-in-One w ↦
      let many = below_leaves c.args.expr.now (w.in-One.input.now ∷ []) (sym (ap listed_below w.in-One.is) ∙ c.below_of.ensures) in
      omega (arith, many, c.own_leaf.ensures, c.min.ensures, w.below-is, w.leaves_of-below.ensures)
  | leaves_of-in-Inputs w ↦
      let many = below_leaves c.args.expr.now w.in-Inputs.inputs.now (sym (ap listed_below w.in-Inputs.is) ∙ c.below_of.ensures) in
      omega (arith, many, c.own_leaf.ensures, c.min.ensures, w.below-is, w.leaves_of_all-below.ensures)
]

pub leaves_of_all-loop-input-init : goal.leaves_of_all-loop-input-init
leaves_of_all-loop-input-init g t c = (omega arith, omega arith)

pub leaves_of_all-overflow_add-count : goal.leaves_of_all-overflow_add-count
leaves_of_all-overflow_add-count g t c = omega (arith, c.loop-input.invariant.0, c.leaves_of.ensures)

pub leaves_of_all-loop-input-preserved : goal.leaves_of_all-loop-input-preserved
leaves_of_all-loop-input-preserved g t c =
    let cons = drop_read c.args.inputs.now c.loop-input.input-index c.input-item.result c.loop-input-test.true c.input-item.is in
    let here = sum_front leaves c.args.inputs.now c.loop-input.input-index c.input-item.result cons in
    (omega (arith, c.min-count.ensures), omega (arith, here, c.min-count.ensures, c.leaves_of.ensures, c.loop-input.invariant.1))

pub leaves_of_all-returns : goal.leaves_of_all-returns
leaves_of_all-returns g t c =
    let none = sum_none leaves c.args.inputs.now c.loop-input.input-index c.loop-input-test.false in
    omega (arith, none, c.loop-input.invariant.0, c.loop-input.invariant.1)
