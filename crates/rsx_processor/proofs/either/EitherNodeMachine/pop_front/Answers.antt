use Rattle.rsx_processor.proofs.Passed.{left_popped_result, right_popped_result}
use Rattle.rsx_processor.proofs.either.EitherNodeMachine.pop_front.Goals as goal

pub returns-in-Left-clause-ok : goal.returns-in-Left-clause-ok
returns-in-Left-clause-ok g c =
    let m = g.O.Ops.meaning c.args.ops.now in
    let old = c.in-Left.node in
    rw c.in-Left.is (left_popped_result g.A.Machine g.B.Machine m (g.A.Machine.popping old) (g.A.Machine.waiting m old) old c.pop_front.new.self c.pop_front.result c.pop_front.ensures.ok)

pub returns-in-Right-clause-ok : goal.returns-in-Right-clause-ok
returns-in-Right-clause-ok g c =
    let m = g.O.Ops.meaning c.args.ops.now in
    let old = c.in-Right.node in
    rw c.in-Right.is (right_popped_result g.A.Machine g.B.Machine m (g.B.Machine.popping old) (g.B.Machine.waiting m old) old c.pop_front-in-Right.new.self c.pop_front-in-Right.result c.pop_front-in-Right.ensures.ok)
