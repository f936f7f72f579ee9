use Rattle.std.proofs.Common.{◌≡◌, true, false, rules}
use Rattle.rsx_tree.specs.Edges.{is_live}
use Rattle.rsx_tree.proofs.Handing.{row_past, row_over}
use Rattle.rsx_tree.proofs.inputs.Inputs.+hand.Goals as goal

pub returns-then-not-is_live : goal.returns-then-not-is_live
returns-then-not-is_live g t c s k =
    let dead : is_live c.in-More.edge.state ≡ false = search rules in
    row_past g.M.Machine c.args.hub k s c.args.self.now c.in-More.edge c.in-More.machine c.in-More.below c.in-More.beside c.deref_mut.result.now c.hand.new.self c.args.signals.now.items c.hand.new.signals.items
    c.in-More.is c.deref_mut.ensures.value dead (c.hand.ensures s)

pub returns-else-not-is_live : goal.returns-else-not-is_live
returns-else-not-is_live g t c s k =
    let live : is_live c.in-More.edge.state ≡ true = search rules in
    row_over g.M.Machine c.args.hub k s c.args.self.now c.in-More.edge c.in-More.machine c.hand_to.new.machine c.in-More.below c.in-More.beside c.deref_mut-in-More.result.now c.deref_mut-in-More-2.result.now c.hand-in-More.new.self c.hand-in-More-2.new.self c.args.signals.now.items c.hand_to.new.signals.items c.hand-in-More.new.signals.items c.hand-in-More-2.new.signals.items
    c.in-More.is c.deref_mut-in-More.ensures.value c.deref_mut-in-More-2.ensures.value live (c.hand_to.ensures s) (c.hand-in-More.ensures s) (c.hand-in-More-2.ensures s)
