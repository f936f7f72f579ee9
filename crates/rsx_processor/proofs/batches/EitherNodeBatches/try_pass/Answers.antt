use Rattle.std.proofs.lemmas.Option.{IfSome_then}
use Rattle.rsx_processor.proofs.Batched.{left_passed_all, right_passed_all}
use Rattle.rsx_processor.proofs.batches.EitherNodeBatches.try_pass.Goals as goal

pub returns-in-Left-clause-passed : goal.returns-in-Left-clause-passed
returns-in-Left-clause-passed g c =
    rw c.in-Left.is (IfSome_then c.try_pass.result c.try_pass.ensures.passed (λ noted h. left_passed_all g.A.Machine g.B.Machine g.A.Batches.went g.B.Batches.went (g.O.Ops.meaning c.args.ops.now) c.args.input c.in-Left.node noted c.args.items.now.items c.try_pass.new.items.items h))

pub returns-in-Right-clause-passed : goal.returns-in-Right-clause-passed
returns-in-Right-clause-passed g c =
    rw c.in-Right.is (IfSome_then c.try_pass-in-Right.result c.try_pass-in-Right.ensures.passed (λ noted h. right_passed_all g.A.Machine g.B.Machine g.A.Batches.went g.B.Batches.went (g.O.Ops.meaning c.args.ops.now) c.args.input c.in-Right.node noted c.args.items.now.items c.try_pass-in-Right.new.items.items h))
