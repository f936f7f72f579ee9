use Rattle.std.proofs.Common.{None, refl}
use Rattle.rsx_rooted.proofs.Fetches.{fetched_after, fetched_first, fetched_nothing, fetched_still}
use Rattle.rsx_rooted.proofs.rooted.Rooted.count_step.Goals as goal

pub returns-then-never_steps-clause-ok : goal.returns-then-never_steps-clause-ok
returns-then-never_steps-clause-ok g c = fetched_nothing g.M.Machine (g.O.Ops.meaning c.args.ops.now) c.args.left.now c.args.self.now

pub returns-then-is_none-clause-ok : goal.returns-then-is_none-clause-ok
returns-then-is_none-clause-ok g c = fetched_nothing g.M.Machine (g.O.Ops.meaning c.args.ops.now) c.args.left.now c.args.self.now

pub returns-in_default-first_step-clause-ok : goal.returns-in_default-first_step-clause-ok
returns-in_default-first_step-clause-ok g c =
    let none = c.in_default.ensures.none in
    fetched_still g.M.Machine (g.O.Ops.meaning c.args.ops.now) c.args.left.now c.step_out.new.left c.args.self.now c.step_out.new.self c.step_out.new.self none.0 none.1 refl

pub returns-in-Ok-clause-ok : goal.returns-in-Ok-clause-ok
returns-in-Ok-clause-ok g c =
    let none = c.in_default.ensures.none in
    fetched_after g.M.Machine (g.O.Ops.meaning c.args.ops.now) c.args.left.now c.step_out.new.left c.step_on.new.left c.args.self.now c.step_out.new.self c.step_on.new.self None none.0 none.1 c.step_on.ensures

pub returns-in-Err-clause-err : goal.returns-in-Err-clause-err
returns-in-Err-clause-err g c =
    let none = c.in_default.ensures.none in
    fetched_after g.M.Machine (g.O.Ops.meaning c.args.ops.now) c.args.left.now c.step_out.new.left c.step_on.new.left c.args.self.now c.step_out.new.self c.step_on.new.self None none.0 none.1 c.step_on.ensures

pub returns-in-Ok-true-clause-ok : goal.returns-in-Ok-true-clause-ok
returns-in-Ok-true-clause-ok g c =
    fetched_first g.M.Machine (g.O.Ops.meaning c.args.ops.now) c.args.left.now c.step_out.new.left c.args.self.now c.step_out.new.self c.make_step.new.self c.requires c.in_default.ensures.none.0 c.in_default.ensures.none.1 (c.in-Ok-true.ensures.made c.in-Ok-true.field-0-test)

pub returns-in-Ok-false-clause-ok : goal.returns-in-Ok-false-clause-ok
returns-in-Ok-false-clause-ok g c =
    let none = c.in_default.ensures.none in
    fetched_still g.M.Machine (g.O.Ops.meaning c.args.ops.now) c.args.left.now c.step_out.new.left c.args.self.now c.step_out.new.self c.make_step.new.self none.0 none.1 (c.in-Ok-false.ensures.none c.in-Ok-false.field-0-test)

pub returns-in-Err-make_step-clause-err : goal.returns-in-Err-make_step-clause-err
returns-in-Err-make_step-clause-err g c =
    let none = c.in_default.ensures.none in
    fetched_still g.M.Machine (g.O.Ops.meaning c.args.ops.now) c.args.left.now c.step_out.new.left c.args.self.now c.step_out.new.self c.make_step.new.self none.0 none.1 c.in-Err-make_step.ensures.same
