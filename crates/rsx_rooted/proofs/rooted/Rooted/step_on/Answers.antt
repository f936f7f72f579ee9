use Rattle.rsx_rooted.proofs.Fetches.{fetched_nothing, fetched_step}
use Rattle.rsx_rooted.proofs.rooted.Rooted.step_on.Goals as goal

pub again-init : goal.again-init
again-init g c = fetched_nothing g.M.Machine (g.O.Ops.meaning c.args.ops.now) c.args.left.now c.args.self.now

pub returns-then-not-has_several_inputs : goal.returns-then-not-has_several_inputs
returns-then-not-has_several_inputs g c =
    fetched_step g.M.Machine (g.O.Ops.meaning c.args.ops.now) c.args.left.now c.again.left c.args.self.now c.again.self c.make_step.new.self c.again.invariant c.again-test.true (c.in-Ok-true.ensures.made c.in-Ok-true.field-0-test)

pub again-preserved : goal.again-preserved
again-preserved g c =
    fetched_step g.M.Machine (g.O.Ops.meaning c.args.ops.now) c.args.left.now c.again.left c.args.self.now c.again.self c.make_step.new.self c.again.invariant c.again-test.true (c.in-Ok-true.ensures.made c.in-Ok-true.field-0-test)
