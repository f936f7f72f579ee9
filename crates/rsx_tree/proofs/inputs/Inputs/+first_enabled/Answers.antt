use Rattle.std.proofs.Common.{◌-◌, ap, ◌∙◌}
use Rattle.rsx_tree.specs.Inputs.{size}
use Rattle.rsx_tree.proofs.Looks.{first_here, first_below, first_beside, none_row, none_beside, none_last, counted, all_counted}
use Rattle.rsx_tree.proofs.inputs.Inputs.+first_enabled.Goals as goal

pub returns-in-Some-clause-some : goal.returns-in-Some-clause-some
returns-in-Some-clause-some g t c = λ m.
    first_here g.M.Machine m c.args.receiver.now c.args.input c.args.asked c.args.sent c.args.at c.args.self.now c.in-More.edge c.in-More.machine c.in-More.below c.in-More.beside c.in-Some.step c.in-More.is c.ranges.at.fits (c.in-Some.ensures.some m)

pub returns-then-room-eq0-clause-none : goal.returns-then-room-eq0-clause-none
returns-then-room-eq0-clause-none g t c = λ m.
    none_last g.M.Machine m c.args.receiver.now c.args.input c.args.asked c.args.sent c.args.at c.args.self.now c.in-More.edge c.in-More.machine c.in-More.below c.in-More.beside c.in-More.is c.if-room-eq0.true (c.in-None.ensures.none m)

pub returns-in-Some-first_enabled-clause-some : goal.returns-in-Some-first_enabled-clause-some
returns-in-Some-first_enabled-clause-some g t c = λ m.
    first_below g.M.Machine m c.args.receiver.now c.args.input c.args.asked c.args.sent c.args.at c.args.self.now c.in-More.edge c.in-More.machine c.in-More.below c.in-More.beside c.deref.result.now c.in-Some-first_enabled.step c.in-More.is c.deref.ensures (c.in-Some-first_enabled.ensures.some m)

pub returns-then-inside-room-clause-none : goal.returns-then-inside-room-clause-none
returns-then-inside-room-clause-none g t c = λ m.
    none_row g.M.Machine m c.args.receiver.now c.args.input c.args.asked c.args.sent c.args.at c.args.self.now c.in-More.edge c.in-More.machine c.in-More.below c.in-More.beside c.deref.result.now c.in-More.is c.deref.ensures
    (c.in-None.ensures.none m) (c.in-None-first_enabled.ensures.none m)
    (λ k lt. absurd (all_counted (size c.in-More.below.value) c.count_up_to-inside.result c.args.at k (ap (λ t. size t) c.deref-in-More.ensures) c.count_up_to-inside.ensures c.if-inside-room.true lt))

pub returns-else-inside-room-clause-some : goal.returns-else-inside-room-clause-some
returns-else-inside-room-clause-some g t c = λ m.
    first_beside g.M.Machine m c.args.receiver.now c.args.input c.args.asked c.args.sent c.args.at c.count_up_to-inside.result c.args.self.now c.in-More.edge c.in-More.machine c.in-More.below c.in-More.beside c.deref-in-More-2.result.now c.first_enabled-in-More.result c.in-More.is c.deref-in-More-2.ensures
    (counted (size c.deref-in-More.result.now) c.count_up_to-inside.result (4294967295 - c.args.at) c.count_up_to-inside.ensures c.if-inside-room.false ∙ ap (λ t. size t) c.deref-in-More.ensures)
    (c.first_enabled-in-More.ensures.some m)

pub returns-else-inside-room-clause-none : goal.returns-else-inside-room-clause-none
returns-else-inside-room-clause-none g t c = λ m.
    none_beside g.M.Machine m c.args.receiver.now c.args.input c.args.asked c.args.sent c.args.at c.count_up_to-inside.result c.args.self.now c.in-More.edge c.in-More.machine c.in-More.below c.in-More.beside c.deref.result.now c.deref-in-More-2.result.now c.first_enabled-in-More.result c.in-More.is c.deref.ensures c.deref-in-More-2.ensures
    (counted (size c.deref-in-More.result.now) c.count_up_to-inside.result (4294967295 - c.args.at) c.count_up_to-inside.ensures c.if-inside-room.false ∙ ap (λ t. size t) c.deref-in-More.ensures)
    (c.in-None.ensures.none m) (c.in-None-first_enabled.ensures.none m) (c.first_enabled-in-More.ensures.none m)
