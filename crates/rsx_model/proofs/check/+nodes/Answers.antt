use Rattle.std.proofs.Common.{◌∷◌, [], ◌∙◌, sym, ap, arith}
use Rattle.rsx_types.proofs.Lists.{drop_read}
use Rattle.rsx_model.specs.Shape.{nodes, listed_below}
use Rattle.rsx_model.proofs.Inputs.{sum_front, sum_none, below_nodes}
use Rattle.rsx_model.proofs.check.+nodes.Goals as goal
use Rattle.rsx_model.proofs.check.+nodes.Goals.{nodes_of-in-One, nodes_of-in-Inputs}

pub nodes_of-returns : goal.nodes_of-returns
nodes_of-returns g t c = elim c.match-below_of.branch [
  | nodes_of-in-One w ↦
      let many = below_nodes c.args.expr.now (w.in-One.input.now ∷ []) (sym (ap listed_below w.in-One.is) ∙ c.below_of.ensures) in
      omega (arith, many, c.min.ensures, w.below-is, w.nodes_of-below.ensures)
  | nodes_of-in-Inputs w ↦
      let many = below_nodes c.args.expr.now w.in-Inputs.inputs.now (sym (ap listed_below w.in-Inputs.is) ∙ c.below_of.ensures) in
      omega (arith, many, c.min.ensures, w.below-is, w.nodes_of_all-below.ensures)
]

pub nodes_of_all-loop-input-init : goal.nodes_of_all-loop-input-init
nodes_of_all-loop-input-init g t c = (omega arith, omega arith)

pub nodes_of_all-overflow_add-count : goal.nodes_of_all-overflow_add-count
nodes_of_all-overflow_add-count g t c = omega (arith, c.loop-input.invariant.0, c.nodes_of.ensures)

pub nodes_of_all-loop-input-preserved : goal.nodes_of_all-loop-input-preserved
nodes_of_all-loop-input-preserved g t c =
    let cons = drop_read c.args.inputs.now c.loop-input.input-index c.input-item.result c.loop-input-test.true c.input-item.is in
    let here = sum_front nodes c.args.inputs.now c.loop-input.input-index c.input-item.result cons in
    (omega (arith, c.min-count.ensures), omega (arith, here, c.min-count.ensures, c.nodes_of.ensures, c.loop-input.invariant.1))

pub nodes_of_all-returns : goal.nodes_of_all-returns
nodes_of_all-returns g t c =
    let none = sum_none nodes c.args.inputs.now c.loop-input.input-index c.loop-input-test.false in
    omega (arith, none, c.loop-input.invariant.0, c.loop-input.invariant.1)
