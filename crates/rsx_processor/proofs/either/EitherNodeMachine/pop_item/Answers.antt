use Rattle.rsx_processor.proofs.Passed.{left_item_result, right_item_result}
use Rattle.rsx_processor.proofs.either.EitherNodeMachine.pop_item.Goals as goal

pub returns-in-Left-clause-some : goal.returns-in-Left-clause-some
returns-in-Left-clause-some g c =
    let old = c.in-Left.node in
    rw c.in-Left.is (left_item_result g.A.Machine g.B.Machine (g.O.Ops.meaning c.args.ops.now) (g.A.Machine.popping old) old c.pop_item.new.self c.pop_item.result c.pop_item.ensures.some)

pub returns-in-Right-clause-some : goal.returns-in-Right-clause-some
returns-in-Right-clause-some g c =
    let old = c.in-Right.node in
    rw c.in-Right.is (right_item_result g.A.Machine g.B.Machine (g.O.Ops.meaning c.args.ops.now) (g.B.Machine.popping old) old c.pop_item-in-Right.new.self c.pop_item-in-Right.result c.pop_item-in-Right.ensures.some)
