use Rattle.std.proofs.Common.{arith}
use Rattle.rsx_tree.specs.Stepped.{IsRowMadeHere}
use Rattle.rsx_tree.proofs.Steps.{stepped_here, stepped_beside, stepped_below}
use Rattle.rsx_tree.proofs.inputs.Inputs.+make_row.Goals as goal

pub returns-in-Ok-clause-made : goal.returns-in-Ok-clause-made
returns-in-Ok-clause-made g t c =
    stepped_here (IsRowMadeHere g.M.Machine (g.O.Ops.meaning c.args.ops.now)) g.M.Machine.ended c.args.self.now c.in-More.edge c.in-More.machine c.row_over.new.node c.in-More.below c.in-More.beside c.deref_mut.result.now c.row_over.new.below c.args.at
    c.in-More.is c.deref_mut.ensures.value c.if-at-eq0.true c.in-Ok.ensures.made

pub returns-in-Ok-make_row-clause-made : goal.returns-in-Ok-make_row-clause-made
returns-in-Ok-make_row-clause-made g t c =
    stepped_beside (IsRowMadeHere g.M.Machine (g.O.Ops.meaning c.args.ops.now)) g.M.Machine.ended c.args.self.now c.in-More.edge c.in-More.machine c.in-More.below c.in-More.beside c.deref.result.now c.deref_mut-then-at-inside.result.now c.make_row.new.self c.args.at c.count_up_to-inside.result
    c.in-More.is c.deref.ensures c.deref_mut-then-at-inside.ensures.value c.count_up_to-inside.ensures c.if-at-inside.true c.in-Ok-make_row.ensures.made

pub returns-in-Ok-make_row-2-clause-made : goal.returns-in-Ok-make_row-2-clause-made
returns-in-Ok-make_row-2-clause-made g t c =
    stepped_below (IsRowMadeHere g.M.Machine (g.O.Ops.meaning c.args.ops.now)) g.M.Machine.ended c.args.self.now c.in-More.edge c.in-More.machine c.in-More.below c.in-More.beside c.deref.result.now c.deref_mut-in-More.result.now c.make_row-in-More.new.self c.args.at c.count_up_to-inside.result
    c.in-More.is c.deref.ensures c.deref_mut-in-More.ensures.value c.count_up_to-inside.ensures (omega arith) c.if-at-inside.false c.in-Ok-make_row-2.ensures.made
