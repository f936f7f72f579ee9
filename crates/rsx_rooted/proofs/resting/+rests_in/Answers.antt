use Rattle.std.proofs.Common.{◌+◌, refl, sym, ◌∙◌}
use Rattle.rsx_tree.proofs.Drives.{idle_end}
use Rattle.rsx_tree.proofs.Looks.{idle_below, idle_row}
use Rattle.rsx_rooted.proofs.AtRest.{rest_over}
use Rattle.rsx_rooted.proofs.resting.+rests_in.Goals as goal

pub returns-then-is_end : goal.returns-then-is_end
returns-then-is_end g t c = λ m yes.
    let b = g.M.Machine in
    let r = c.args.receiver.now in
    idle_row b m r c.args.input (c.args.input + 1) c.args.asked c.args.sent c.args.row.now c.in-More.edge c.in-More.sender c.in-More.below c.in-More.beside c.deref.result.now c.in-More.is c.deref.ensures refl
    (rest_over b m r c.args.input c.args.asked c.args.sent c.args.want c.in-More.edge c.in-More.sender c.requires (sym c.can_ask.ensures ∙ c.if-can_ask.false) (c.in-Some.ensures.stays m) c.in-Some.ensures.still)
    (idle_below b m c.in-More.sender c.in-More.edge.demand.asked c.in-More.edge.demand.sent c.in-More.below c.deref-then-is_end.result.now c.deref-then-is_end.ensures (c.rests_in.ensures m yes))
    (idle_end b m r (c.args.input + 1) c.args.asked c.args.sent c.deref.result.now (c.is_end.ensures c.if-is_end.true))

pub returns-in-Some-checked_add : goal.returns-in-Some-checked_add
returns-in-Some-checked_add g t c = λ m yes.
    let b = g.M.Machine in
    let r = c.args.receiver.now in
    idle_row b m r c.args.input c.in-Some-checked_add.next c.args.asked c.args.sent c.args.row.now c.in-More.edge c.in-More.sender c.in-More.below c.in-More.beside c.deref-in-Some-checked_add.result.now c.in-More.is c.deref-in-Some-checked_add.ensures c.in-Some-checked_add.ensures.1
    (rest_over b m r c.args.input c.args.asked c.args.sent c.args.want c.in-More.edge c.in-More.sender c.requires (sym c.can_ask.ensures ∙ c.if-can_ask.false) (c.in-Some.ensures.stays m) c.in-Some.ensures.still)
    (idle_below b m c.in-More.sender c.in-More.edge.demand.asked c.in-More.edge.demand.sent c.in-More.below c.deref-in-More.result.now c.deref-in-More.ensures (c.rests_in-in-More.ensures m c.if-not-rests_in.false))
    (c.rests_in-in-Some-checked_add.ensures m yes)
