use Rattle.std.proofs.Common.{rules}
use Rattle.rsx_app.proofs.Smaller.{input_smaller}
use Rattle.rsx_app.proofs.late.+regions.Goals as goal

pub have_other_regions-has_other_region-requires : goal.have_other_regions-has_other_region-requires
have_other_regions-has_other_region-requires g t c κs within = (search (rules, input_smaller c.args.exprs.now c.loop-expr.expr-index c.expr-item.result c.loop-expr-test.true c.expr-item.is), search rules)
