use Rattle.std.proofs.Common.{None, Some}
use Rattle.rsx_rooted.specs.Fetched.{IsFetched}
use Rattle.rsx_rooted.proofs.Fetches.{fetched_nothing, fetched_on, same_answer}
use Rattle.rsx_rooted.proofs.rooted.Rooted.fetch.Goals as goal

pub steps-init : goal.steps-init
steps-init g c = fetched_nothing g.M.Machine (g.O.Ops.meaning c.args.ops.now) c.args.left.now c.args.self.now

pub returns-in-Some : goal.returns-in-Some
returns-in-Some g c =
    let m = g.O.Ops.meaning c.args.ops.now in
    let stepped : IsFetched g.M.Machine m c.args.left.now c.args.self.now None c.count_step.new.left c.count_step.new.self = fetched_on g.M.Machine m c.args.left.now c.steps.left c.count_step.new.left c.args.self.now c.steps.self c.count_step.new.self None c.steps.invariant (same_answer g.M.Machine m c.steps.left c.count_step.new.left c.steps.self c.count_step.new.self c.in-Ok-None.field-0 None c.in-Ok-None.field-0-is c.in-Ok-None.ensures.ok) in
    fetched_on g.M.Machine m c.args.left.now c.count_step.new.left c.fetch_item.new.left c.args.self.now c.count_step.new.self c.fetch_item.new.self (Some c.in-Some.item) stepped c.in-Some.ensures

pub returns-in-Ok-Some : goal.returns-in-Ok-Some
returns-in-Ok-Some g c =
    let m = g.O.Ops.meaning c.args.ops.now in
    let fetched : IsFetched g.M.Machine m c.steps.left c.steps.self (Some c.in-Ok-Some.item) c.count_step.new.left c.count_step.new.self = same_answer g.M.Machine m c.steps.left c.count_step.new.left c.steps.self c.count_step.new.self c.in-Ok-Some.field-0 (Some c.in-Ok-Some.item) c.in-Ok-Some.field-0-is c.in-Ok-Some.ensures.ok in
    fetched_on g.M.Machine m c.args.left.now c.steps.left c.count_step.new.left c.args.self.now c.steps.self c.count_step.new.self (Some c.in-Ok-Some.item) c.steps.invariant fetched

pub returns-then-left-before : goal.returns-then-left-before
returns-then-left-before g c =
    let m = g.O.Ops.meaning c.args.ops.now in
    let stepped : IsFetched g.M.Machine m c.args.left.now c.args.self.now None c.count_step.new.left c.count_step.new.self = fetched_on g.M.Machine m c.args.left.now c.steps.left c.count_step.new.left c.args.self.now c.steps.self c.count_step.new.self None c.steps.invariant (same_answer g.M.Machine m c.steps.left c.count_step.new.left c.steps.self c.count_step.new.self c.in-Ok-None.field-0 None c.in-Ok-None.field-0-is c.in-Ok-None.ensures.ok) in
    fetched_on g.M.Machine m c.args.left.now c.count_step.new.left c.fetch_item.new.left c.args.self.now c.count_step.new.self c.fetch_item.new.self None stepped c.in-None.ensures

pub steps-preserved : goal.steps-preserved
steps-preserved g c =
    let m = g.O.Ops.meaning c.args.ops.now in
    let stepped : IsFetched g.M.Machine m c.args.left.now c.args.self.now None c.count_step.new.left c.count_step.new.self = fetched_on g.M.Machine m c.args.left.now c.steps.left c.count_step.new.left c.args.self.now c.steps.self c.count_step.new.self None c.steps.invariant (same_answer g.M.Machine m c.steps.left c.count_step.new.left c.steps.self c.count_step.new.self c.in-Ok-None.field-0 None c.in-Ok-None.field-0-is c.in-Ok-None.ensures.ok) in
    fetched_on g.M.Machine m c.args.left.now c.count_step.new.left c.fetch_item.new.left c.args.self.now c.count_step.new.self c.fetch_item.new.self None stepped c.in-None.ensures

pub returns-in-Err : goal.returns-in-Err
returns-in-Err g c =
    let m = g.O.Ops.meaning c.args.ops.now in
    fetched_on g.M.Machine m c.args.left.now c.steps.left c.count_step.new.left c.args.self.now c.steps.self c.count_step.new.self None c.steps.invariant c.in-Err.ensures.err
