use Rattle.rsx_kinds.proofs.GroupBys.{as_group_by}
use Rattle.rsx_kinds.proofs.trees.group_by.Goals as goal

pub returns : goal.returns
returns g c =
    let n = c.new-node.ensures in
    as_group_by c.args.function c.in_ok-copies.copies.items c.args.stages.now c.new-node.result c.in_ok-copies.ensures n.fresh n.ended n.counted n.choices
