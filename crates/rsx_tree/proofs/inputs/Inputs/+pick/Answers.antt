use Rattle.std.proofs.Common.{arith, rules}
use Rattle.rsx_tree.specs.Stepped.{IsAfterPick, IsPickedHere}
use Rattle.rsx_tree.proofs.Steps.{stepped_here, stepped_beside, stepped_below}
use Rattle.rsx_tree.proofs.inputs.Inputs.+pick.Goals as goal

pub returns-in-Ok-clause-made : goal.returns-in-Ok-clause-made
returns-in-Ok-clause-made g t c =
    stepped_here (IsPickedHere g.M.Machine (g.O.Ops.meaning c.args.ops.now) c.args.input) g.M.Machine.ended c.args.self.now c.in-More.edge c.in-More.machine c.pick_over.new.node c.in-More.below c.in-More.beside c.deref_mut.result.now c.pick_over.new.below c.args.at
    c.in-More.is c.deref_mut.ensures.value c.if-at-eq0.true c.in-Ok.ensures.made

pub returns-in-Ok-pick-clause-made : goal.returns-in-Ok-pick-clause-made
returns-in-Ok-pick-clause-made g t c =
    stepped_beside (IsPickedHere g.M.Machine (g.O.Ops.meaning c.args.ops.now) c.args.input) g.M.Machine.ended c.args.self.now c.in-More.edge c.in-More.machine c.in-More.below c.in-More.beside c.deref.result.now c.deref_mut-then-at-inside.result.now c.pick.new.self c.args.at c.count_up_to-inside.result
    c.in-More.is c.deref.ensures c.deref_mut-then-at-inside.ensures.value c.count_up_to-inside.ensures c.if-at-inside.true c.in-Ok-pick.ensures.made

pub returns-in-Ok-pick-2-clause-made : goal.returns-in-Ok-pick-2-clause-made
returns-in-Ok-pick-2-clause-made g t c =
    stepped_below (IsPickedHere g.M.Machine (g.O.Ops.meaning c.args.ops.now) c.args.input) g.M.Machine.ended c.args.self.now c.in-More.edge c.in-More.machine c.in-More.below c.in-More.beside c.deref.result.now c.deref_mut-in-More.result.now c.pick-in-More.new.self c.args.at c.count_up_to-inside.result
    c.in-More.is c.deref.ensures c.deref_mut-in-More.ensures.value c.count_up_to-inside.ensures (omega arith) c.if-at-inside.false c.in-Ok-pick-2.ensures.made

pub returns-in-Ok-clause-after : goal.returns-in-Ok-clause-after
returns-in-Ok-clause-after g t c =
    stepped_here (IsAfterPick g.M.Machine c.args.input) g.M.Machine.ended c.args.self.now c.in-More.edge c.in-More.machine c.pick_over.new.node c.in-More.below c.in-More.beside c.deref_mut.result.now c.pick_over.new.below c.args.at
    c.in-More.is c.deref_mut.ensures.value c.if-at-eq0.true c.in-Ok.ensures.after

pub returns-in-Ok-pick-clause-after : goal.returns-in-Ok-pick-clause-after
returns-in-Ok-pick-clause-after g t c =
    stepped_beside (IsAfterPick g.M.Machine c.args.input) g.M.Machine.ended c.args.self.now c.in-More.edge c.in-More.machine c.in-More.below c.in-More.beside c.deref.result.now c.deref_mut-then-at-inside.result.now c.pick.new.self c.args.at c.count_up_to-inside.result
    c.in-More.is c.deref.ensures c.deref_mut-then-at-inside.ensures.value c.count_up_to-inside.ensures c.if-at-inside.true c.in-Ok-pick.ensures.after

pub returns-in-Ok-pick-2-clause-after : goal.returns-in-Ok-pick-2-clause-after
returns-in-Ok-pick-2-clause-after g t c =
    stepped_below (IsAfterPick g.M.Machine c.args.input) g.M.Machine.ended c.args.self.now c.in-More.edge c.in-More.machine c.in-More.below c.in-More.beside c.deref.result.now c.deref_mut-in-More.result.now c.pick-in-More.new.self c.args.at c.count_up_to-inside.result
    c.in-More.is c.deref.ensures c.deref_mut-in-More.ensures.value c.count_up_to-inside.ensures (omega arith) c.if-at-inside.false c.in-Ok-pick-2.ensures.after

pub returns-in-Err-pick-clause-same : goal.returns-in-Err-pick-clause-same
returns-in-Err-pick-clause-same g t c = search rules

pub returns-in-Err-pick-2-clause-err : goal.returns-in-Err-pick-2-clause-err
returns-in-Err-pick-2-clause-err g t c = search rules

pub returns-in-Err-pick-2-clause-memory : goal.returns-in-Err-pick-2-clause-memory
returns-in-Err-pick-2-clause-memory g t c = search rules

pub returns-in-Err-pick-2-clause-same : goal.returns-in-Err-pick-2-clause-same
returns-in-Err-pick-2-clause-same g t c = search rules
