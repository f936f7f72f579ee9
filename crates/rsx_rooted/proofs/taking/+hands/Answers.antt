use Rattle.std.proofs.Common.{◌≡◌, true, false, rules}
use Rattle.rsx_tree.specs.Edges.{is_live}
use Rattle.rsx_rooted.proofs.TakenOff.{end_taken, row_past, row_over}
use Rattle.rsx_rooted.proofs.taking.+hands.Goals as goal

pub returns-then-not-is_live : goal.returns-then-not-is_live
returns-then-not-is_live g t c most =
    let dead : is_live c.in-More.edge.state ≡ false = search rules in
    row_past g.N.Machine g.N.Batches.spaces_of c.args.hub c.args.count most c.args.row.now c.in-More.edge c.in-More.machine c.in-More.below c.in-More.beside c.deref_mut.result.now c.hand_to_row.new.row c.args.items.now.items c.hand_to_row.new.items.items
    c.in-More.is c.deref_mut.ensures.value dead (c.hand_to_row.ensures most)

pub returns-in-End : goal.returns-in-End
returns-in-End g t c most = end_taken g.N.Machine g.N.Batches.spaces_of c.args.hub c.args.count most c.args.row.now c.args.items.now.items c.in-End.is

pub returns-else-not-is_live : goal.returns-else-not-is_live
returns-else-not-is_live g t c most =
    let live : is_live c.in-More.edge.state ≡ true = search rules in
    row_over g.N.Machine g.N.Batches.spaces_of c.args.hub c.args.count most c.args.row.now c.in-More.edge c.in-More.machine c.hand_to_node.new.machine c.in-More.below c.in-More.beside c.deref_mut-in-More.result.now c.deref_mut-in-More-2.result.now c.hand_to_row-in-More.new.row c.hand_to_row-in-More-2.new.row
    c.args.items.now.items c.hand_to_node.new.items.items c.hand_to_row-in-More.new.items.items c.hand_to_row-in-More-2.new.items.items
    c.in-More.is c.deref_mut-in-More.ensures.value c.deref_mut-in-More-2.ensures.value live c.hand_to_node.ensures c.hand_to_row-in-More.ensures c.hand_to_row-in-More-2.ensures
