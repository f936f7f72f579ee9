use Rattle.rsx_processor.proofs.Passed.{left_passed, right_passed}
use Rattle.rsx_processor.proofs.either.EitherNodeMachine.pass.Goals as goal

pub returns-in-Left-clause-passed : goal.returns-in-Left-clause-passed
returns-in-Left-clause-passed g c =
    rw c.in-Left.is (left_passed g.A.Machine g.B.Machine (g.O.Ops.meaning c.args.ops.now) c.in-Left.node c.pass.new.self c.args.input c.args.item c.pass.result c.pass.ensures.passed)

pub returns-in-Right-clause-passed : goal.returns-in-Right-clause-passed
returns-in-Right-clause-passed g c =
    rw c.in-Right.is (right_passed g.A.Machine g.B.Machine (g.O.Ops.meaning c.args.ops.now) c.in-Right.node c.pass-in-Right.new.self c.args.input c.args.item c.pass-in-Right.result c.pass-in-Right.ensures.passed)
