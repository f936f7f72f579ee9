use Rattle.std.proofs.Common.{refl, false, arith, rules}
use Rattle.rsx_tree.specs.Changed.{IsAskedOver}
use Rattle.rsx_tree.proofs.Changes.{changed_here, changed_beside, changed_below}
use Rattle.rsx_tree.proofs.inputs.Inputs.+ask.Goals as goal

pub returns-in-Ok-clause-made : goal.returns-in-Ok-clause-made
returns-in-Ok-clause-made g t c =
    changed_here (IsAskedOver g.M.Machine) (λ n. false) c.args.receiver.now c.args.receiver.now c.args.input c.args.asked c.args.sent c.args.self.now c.in-More.edge c.ask_over.new.edge c.in-More.machine c.in-More.machine c.in-More.below c.in-More.beside c.args.at
    c.in-More.is c.if-at-eq0.true c.in-Ok.ensures.made

pub returns-in-Ok-ask-clause-made : goal.returns-in-Ok-ask-clause-made
returns-in-Ok-ask-clause-made g t c =
    changed_beside (IsAskedOver g.M.Machine) (λ n. false) c.args.receiver.now c.args.receiver.now c.args.input c.args.asked c.args.sent c.args.self.now c.in-More.edge c.in-More.machine c.in-More.below c.in-More.beside c.deref.result.now c.deref_mut.result.now c.ask.new.self c.args.at c.count_up_to-inside.result
    c.in-More.is c.deref.ensures c.deref_mut.ensures.value c.count_up_to-inside.ensures c.if-at-inside.true c.in-Ok-ask.ensures.made

pub returns-in-Ok-ask-2-clause-made : goal.returns-in-Ok-ask-2-clause-made
returns-in-Ok-ask-2-clause-made g t c =
    changed_below (IsAskedOver g.M.Machine) (λ n. false) c.args.receiver.now c.args.input c.args.asked c.args.sent c.args.self.now c.in-More.edge c.in-More.machine c.in-More.machine c.in-More.below c.in-More.beside c.deref.result.now c.deref_mut-in-More.result.now c.ask-in-More.new.self c.ask-in-More.new.self c.args.at c.count_up_to-inside.result
    c.in-More.is c.deref.ensures c.deref_mut-in-More.ensures.value c.count_up_to-inside.ensures (omega arith) c.if-at-inside.false c.in-Ok-ask-2.ensures.made refl

pub returns-in-Err-ask-clause-err : goal.returns-in-Err-ask-clause-err
returns-in-Err-ask-clause-err g t c = search rules
