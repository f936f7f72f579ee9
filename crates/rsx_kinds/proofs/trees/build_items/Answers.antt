use Rattle.rsx_kinds.proofs.Builds.{items_made}
use Rattle.rsx_kinds.proofs.trees.build_items.Goals as goal

pub returns-clause-built : goal.returns-clause-built
returns-clause-built g c =
    items_made (g.O.Ops.meaning c.args.ops.now) c.args.items.now c.deref.result.now c.in_ok-node.node c.source.result
    c.deref.ensures.value c.in_ok-node.ensures.fresh c.source.ensures.machine c.source.ensures.inputs
