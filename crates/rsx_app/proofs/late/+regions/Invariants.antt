use Rattle.std.proofs.Common.{◌+◌, ◌*◌, map}
use Rattle.rsx_model.specs.Shape.{nodes, sum_of}
use Rattle.rsx_app.proofs.late.+regions.Given as goal

abbrev pub decreases-has_other_region : goal.decreases-has_other_region
decreases-has_other_region g l = 2 * nodes l.expr.now

abbrev pub decreases-have_other_regions : goal.decreases-have_other_regions
decreases-have_other_regions g l = 2 * sum_of (map nodes l.exprs.now) + 1
