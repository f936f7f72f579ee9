use Rattle.std.proofs.Common.{◌+◌, refl}
use Rattle.rsx_tree.proofs.Drives.{idle_end}
use Rattle.rsx_tree.proofs.Looks.{idle_below, idle_row}
use Rattle.rsx_tree.proofs.inputs.Inputs.+is_idle.Goals as goal

pub returns-then-is_end : goal.returns-then-is_end
returns-then-is_end g t c = λ m yes.
    let b = g.M.Machine in
    idle_row b m c.args.receiver.now c.args.input (c.args.input + 1) c.args.asked c.args.sent c.args.self.now c.in-More.edge c.in-More.machine c.in-More.below c.in-More.beside c.deref.result.now c.in-More.is c.deref.ensures refl (c.rests_over.ensures m c.if-not-rests_over.false)
    (idle_below b m c.in-More.machine c.in-More.edge.demand.asked c.in-More.edge.demand.sent c.in-More.below c.deref-then-is_end.result.now c.deref-then-is_end.ensures (c.is_idle.ensures m yes))
    (idle_end b m c.args.receiver.now (c.args.input + 1) c.args.asked c.args.sent c.deref.result.now (c.is_end.ensures c.if-is_end.true))

pub returns-in-Some : goal.returns-in-Some
returns-in-Some g t c = λ m yes.
    let b = g.M.Machine in
    idle_row b m c.args.receiver.now c.args.input c.in-Some.next c.args.asked c.args.sent c.args.self.now c.in-More.edge c.in-More.machine c.in-More.below c.in-More.beside c.deref-in-Some.result.now c.in-More.is c.deref-in-Some.ensures c.in-Some.ensures.1 (c.rests_over.ensures m c.if-not-rests_over.false)
    (idle_below b m c.in-More.machine c.in-More.edge.demand.asked c.in-More.edge.demand.sent c.in-More.below c.deref-in-More.result.now c.deref-in-More.ensures (c.is_idle-in-More.ensures m c.if-not-is_idle.false))
    (c.is_idle-in-Some.ensures m yes)
