use Rattle.std.proofs.Common.{sym, ◌∙◌}
use Rattle.rsx_graph_moves.proofs.Leaves.{leaf_below, leaf_beside}
use Rattle.rsx_graph_moves.proofs.leaf.+leaf_in.Goals as goal

pub returns-in-Some-leaf_in-clause-some : goal.returns-in-Some-leaf_in-clause-some
returns-in-Some-leaf_in-clause-some g t c =
    leaf_below g.M.Machine c.args.row.now c.in-More.edge c.in-More.machine c.in-More.below c.in-More.beside _ c.args.first c.in-Some-leaf_in.leaf c.in-More.is c.deref.ensures (sym c.lacks.ensures ∙ c.if-lacks.true) c.in-Some-leaf_in.ensures.some

pub returns-else-inside-room-clause-some : goal.returns-else-inside-room-clause-some
returns-else-inside-room-clause-some g t c =
    leaf_beside g.M.Machine c.args.row.now c.in-More.edge c.in-More.machine c.in-More.below c.in-More.beside _ _ c.args.first c.count_up_to-inside.result _ c.leaf_in-in-More.result c.in-More.is c.deref-in-More.ensures c.deref-in-More-2.ensures c.count_up_to-inside.ensures c.if-inside-room.false c.leaf_in-in-More.ensures.some
