use Rattle.rsx_kinds.proofs.FlatMapDelays.{as_flat_map_delay}
use Rattle.rsx_kinds.proofs.trees.flat_map_delay.Goals as goal

pub returns : goal.returns
returns g c =
    let n = c.new-node.ensures in
    as_flat_map_delay c.args.function c.args.concurrency c.in_ok-copies.copies.items c.args.stages.now c.new-node.result c.in_ok-copies.ensures n.fresh n.counted n.concurrency n.choices n.next n.nothing
