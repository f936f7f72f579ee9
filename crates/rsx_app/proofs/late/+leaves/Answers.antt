use Rattle.std.proofs.Common.{rules}
use Rattle.rsx_app.proofs.Smaller.{input_smaller}
use Rattle.rsx_app.proofs.late.+leaves.Goals as goal

pub leaves_of_all-leaves_at-requires : goal.leaves_of_all-leaves_at-requires
leaves_of_all-leaves_at-requires g t c κs within = (search (rules, input_smaller c.args.exprs.now c.loop-expr.expr-index c.expr-item.result c.loop-expr-test.true c.expr-item.is), search rules)
