use Rattle.std.proofs.Common.{◌+◌, ◌*◌, map}
use Rattle.rsx_model.specs.Shape.{nodes, sum_of}
use Rattle.rsx_kinds.proofs.trees.+trees.Given as goal

abbrev pub decreases-build : goal.decreases-build
decreases-build g l = 3 * nodes l.expr.now

abbrev pub decreases-build_over : goal.decreases-build_over
decreases-build_over g l = 3 * sum_of (map nodes l.inputs.now) + 2

abbrev pub decreases-build_inputs : goal.decreases-build_inputs
decreases-build_inputs g l = 3 * sum_of (map nodes l.exprs.now) + 1
