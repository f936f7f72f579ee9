use Rattle.rsx_processor.proofs.Passed.{left_stepped_out, right_stepped_out}
use Rattle.rsx_processor.proofs.either.EitherNodeMachine.step_item.Goals as goal

pub returns-in-Left-clause-out : goal.returns-in-Left-clause-out
returns-in-Left-clause-out g c =
    rw c.in-Left.is (left_stepped_out g.A.Machine g.B.Machine (g.O.Ops.meaning c.args.ops.now) c.in-Left.node c.step_item.new.self c.args.asked c.args.sent c.step_item.result c.step_item.ensures.out)

pub returns-in-Right-clause-out : goal.returns-in-Right-clause-out
returns-in-Right-clause-out g c =
    rw c.in-Right.is (right_stepped_out g.A.Machine g.B.Machine (g.O.Ops.meaning c.args.ops.now) c.in-Right.node c.step_item-in-Right.new.self c.args.asked c.args.sent c.step_item-in-Right.result c.step_item-in-Right.ensures.out)
