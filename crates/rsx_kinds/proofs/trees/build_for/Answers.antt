use Rattle.rsx_kinds.proofs.Crossings.{crossed_if}
use Rattle.rsx_kinds.proofs.trees.build_for.Goals as goal

pub returns-clause-built : goal.returns-clause-built
returns-clause-built g c = crossed_if (g.O.Ops.meaning c.args.ops.now) c.args.hubs.now c.args.expr.now c.build-made.result _ c.crossed.result c.build-made.ensures.built c.crossed.ensures
