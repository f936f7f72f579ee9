use Rattle.std.proofs.Common.{◌+◌, ◌*◌, map}
use Rattle.rsx_model.specs.Shape.{nodes, sum_of}
use Rattle.rsx_app.proofs.late.+leaves.Given as goal

abbrev pub decreases-leaves_at : goal.decreases-leaves_at
decreases-leaves_at g l = 2 * nodes l.expr.now

abbrev pub decreases-leaves_of_all : goal.decreases-leaves_of_all
decreases-leaves_of_all g l = 2 * sum_of (map nodes l.exprs.now) + 1
