use Rattle.rsx_rooted.proofs.TakenOff.{tree_taken}
use Rattle.rsx_rooted.proofs.taking.hand_many.Goals as goal

pub returns : goal.returns
returns g c most =
    tree_taken g.N.Machine g.N.Batches.spaces_of c.args.hub c.args.count most c.args.tree.now.machine c.hand_to_node.new.machine c.args.tree.now.inputs c.hand_to_row.new.row
    c.args.items.now.items c.hand_to_node.new.items.items c.hand_to_row.new.items.items c.hand_to_node.ensures c.hand_to_row.ensures
